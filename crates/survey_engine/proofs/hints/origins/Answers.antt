use Rattle.std.proofs.Common.{◌≡◌, ◌+◌, ◌∙◌, IfSome, refl, arith, rules}
use Rattle.outside.specs.Attached.{told_all}
use Rattle.outside.proofs.Reading.{reads_none}
use Rattle.survey_engine.specs.Origins.{hints_at, with_numbers}
use Rattle.survey_engine.proofs.Firsts.{hinted_all, hinted_more, hinted_none, one_more_read, reads_some}
use Rattle.survey_engine.proofs.hints.origins.Goals as goal

pub loop-sighting-init : goal.loop-sighting-init
loop-sighting-init g c =
    let same : c.try_extend_from_slice.new.self.items ≡ c.args.asked.now = search rules in
    record {
      reads = reads_none (g.I.Images.seen c.args.images.now);
      told = hinted_none (g.I.Images.seen c.args.images.now).attached c.args.asked.now c.args.lengths.now c.args.found.now c.try_extend_from_slice.new.self.items c.requires.asked.few same;
      origins = rw same c.requires.asked;
      stays = refl;
    }

pub returns-in_err-add_hints-clause-reads : goal.returns-in_err-add_hints-clause-reads
returns-in_err-add_hints-clause-reads g c =
    reads_some (g.I.Images.seen c.args.images.now) (g.I.Images.seen c.add_hints.new.images) c.args.lengths.now c.args.found.now (c.loop-sighting.sighting-index + 1)
    (one_more_read (g.I.Images.seen c.args.images.now) (g.I.Images.seen c.loop-sighting.images) (g.I.Images.seen c.add_hints.new.images) c.args.lengths.now c.args.found.now c.loop-sighting.sighting-index c.sighting-item.result (omega arith) c.sighting-item.is
    c.loop-sighting.invariant.reads c.add_hints.ensures.reads)

pub loop-sighting-preserved : goal.loop-sighting-preserved
loop-sighting-preserved g c =
    let adds : IfSome (told_all (g.I.Images.seen c.loop-sighting.images).attached) (λ bytes. c.add_hints.new.origins.items ≡ with_numbers c.loop-sighting.origins.items (hints_at c.args.lengths.now bytes c.sighting-item.result)) = search rules in
    record {
      reads = one_more_read (g.I.Images.seen c.args.images.now) (g.I.Images.seen c.loop-sighting.images) (g.I.Images.seen c.add_hints.new.images) c.args.lengths.now c.args.found.now c.loop-sighting.sighting-index c.sighting-item.result (omega arith) c.sighting-item.is
          c.loop-sighting.invariant.reads c.add_hints.ensures.reads;
      told = hinted_more (g.I.Images.seen c.args.images.now).attached c.args.asked.now c.args.lengths.now c.args.found.now c.loop-sighting.sighting-index c.sighting-item.result c.loop-sighting.origins.items c.add_hints.new.origins.items (omega arith) c.sighting-item.is
          c.loop-sighting.invariant.told (rw (← c.loop-sighting.invariant.reads.attached) adds);
      origins = search rules;
      stays = let now : (g.I.Images.seen c.add_hints.new.images).faults ≡ (g.I.Images.seen c.loop-sighting.images).faults = search rules in now ∙ c.loop-sighting.invariant.stays;
    }

pub returns-clause-told : goal.returns-clause-told
returns-clause-told g c = hinted_all (g.I.Images.seen c.args.images.now).attached c.args.asked.now c.args.lengths.now c.args.found.now c.loop-sighting.sighting-index c.loop-sighting.origins.items (omega arith) c.loop-sighting.invariant.told

pub returns-clause-reads : goal.returns-clause-reads
returns-clause-reads g c = reads_some (g.I.Images.seen c.args.images.now) (g.I.Images.seen c.loop-sighting.images) c.args.lengths.now c.args.found.now c.loop-sighting.sighting-index c.loop-sighting.invariant.reads
