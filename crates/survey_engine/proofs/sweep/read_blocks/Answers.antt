use Rattle.std.proofs.Common.{◌≡◌, ◌∙◌, ◌*◌, length, ap, refl, arith, rules}
use Rattle.std.proofs.lemmas.List.{length-take, length-drop}
use Rattle.outside.proofs.Reading.{reads_join, reads_none, reads_up}
use Rattle.outside.specs.Seen.{AreTold}
use Rattle.survey_engine.proofs.Blocks.{block_inside}
use Rattle.survey_engine.proofs.Reading.{all_within, held_none, held_more, held_all}
use Rattle.survey_engine.proofs.sweep.read_blocks.Goals as goal

pub loop-image-init : goal.loop-image-init
loop-image-init g c = record {
  reads = reads_up (g.I.Images.seen c.args.images.now) (g.I.Images.seen c.args.images.now) (reads_none (g.I.Images.seen c.args.images.now)) (omega arith);
  stays = refl;
  told = held_none (g.I.Images.seen c.args.images.now).attached c.args.first c.args.count c.args.bytes.now;
}

pub read-requires : goal.read-requires
read-requires g c =
    let inside = block_inside c.args.number c.args.count c.loop-image.image c.loop-image.bytes (omega arith) c.requires.fits (omega arith) in
    let same = ap length c.loop-image.invariant.reads.attached in
    all_within (g.I.Images.seen c.loop-image.images).attached c.loop-image.image c.args.first c.args.count _ (rw c.loop-image.invariant.reads.attached c.requires.long) (omega (arith, same)) c.requires.some
    (simp (length-take, length-drop) (omega arith))

pub loop-image-preserved : goal.loop-image-preserved
loop-image-preserved g c =
    let inside = block_inside c.args.number c.args.count c.loop-image.image c.loop-image.bytes (omega arith) c.requires.fits (omega arith) in
    let same = ap length c.loop-image.invariant.reads.attached in
    let long : length c.read.new.to ≡ 512 * c.args.count = c.read.auto.to ∙ simp (length-take, length-drop) (omega arith) in
    let are : AreTold (g.I.Images.seen c.loop-image.images).attached c.loop-image.image c.args.first c.read.new.to = search rules in
    let stays : (g.I.Images.seen c.read.new.self).faults ≡ (g.I.Images.seen c.loop-image.images).faults = search rules in
    record {
      reads = reads_up (g.I.Images.seen c.args.images.now) (g.I.Images.seen c.read.new.self) (reads_join (g.I.Images.seen c.args.images.now) (g.I.Images.seen c.loop-image.images) (g.I.Images.seen c.read.new.self) c.loop-image.invariant.reads c.read.ensures.reads)
          (grind arith);
      stays = stays ∙ c.loop-image.invariant.stays;
      told = held_more (g.I.Images.seen c.args.images.now).attached c.loop-image.image _ c.args.first c.args.count c.loop-image.bytes c.read.new.to (omega arith) c.requires.fits (omega arith) long c.loop-image.invariant.told (rw (← c.loop-image.invariant.reads.attached) are);
    }

pub returns-clause-told : goal.returns-clause-told
returns-clause-told g c = held_all (g.I.Images.seen c.args.images.now).attached c.loop-image.image c.args.number c.args.first c.args.count c.loop-image.bytes c.requires.number (omega arith) (omega arith) c.loop-image.invariant.told
