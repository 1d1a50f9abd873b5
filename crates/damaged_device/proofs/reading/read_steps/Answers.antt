use Rattle.std.proofs.Common.{ℕ, ◌≡◌, ◌∙◌, ◌+◌, ◌-◌, ◌*◌, ◌/◌, drop, length, refl, rules, arith, take}
use Rattle.outside.proofs.Reading.{reads_none, reads_up}
use Rattle.outside.specs.Attached.{told_all}
use Rattle.rescue_map.proofs.Blocks.{reads_blocks, reads_some}
use Rattle.virtual_volume.proofs.Sets.{served_head}
use Rattle.volume_device.proofs.Chunks.{volume_short}
use Rattle.damaged_device.proofs.Told.{part_on, part_start, part_whole}
use Rattle.damaged_device.proofs.reading.read_steps.Goals as goal

pub step_of-requires-clause-head : goal.step_of-requires-clause-head
step_of-requires-clause-head g c = served_head c.args.damage.now.set.now.geo c.args.damage.now.end (g.I.Images.seen c.args.images.now).attached c.requires.can.can.set

pub loop-at-init : goal.loop-at-init
loop-at-init g c = record {
  within = omega arith;
  long = refl;
  can = c.requires.can;
  reads = reads_up (g.I.Images.seen c.args.images.now) (g.I.Images.seen c.args.images.now) (reads_none (g.I.Images.seen c.args.images.now)) (omega arith);
  stays = refl;
  told = part_start (told_all (g.I.Images.seen c.args.images.now).attached) c.args.damage.now.rescue.now c.args.damage.now.set.now c.args.first c.args.to.now;
}

pub overflow_add-first : goal.overflow_add-first
overflow_add-first g c =
    let short = volume_short c.args.damage.now.set.now.geo c.args.damage.now.end (g.I.Images.seen c.args.images.now).attached c.requires.can.can.set in
    omega (arith, c.requires.within, short)

pub overflow_add-first-in-loop-at : goal.overflow_add-first-in-loop-at
overflow_add-first-in-loop-at g c =
    let short = volume_short c.args.damage.now.set.now.geo c.args.damage.now.end (g.I.Images.seen c.args.images.now).attached c.requires.can.can.set in
    omega (arith, c.requires.within, short)

pub returns-in_err-read_step-clause-reads : goal.returns-in_err-read_step-clause-reads
returns-in_err-read_step-clause-reads g c =
    let damage = c.args.damage.now in
    let at = c.loop-at.at in
    let m : ℕ = length (take (512 * (c.loop-at.at + c.step_of.result) - 512 * c.loop-at.at) (drop (512 * c.loop-at.at) c.loop-at.to)) / 512 in
    let within = c.step_of.ensures.within in
    let long = c.loop-at.invariant.long in
    let size : length (take (512 * (c.loop-at.at + c.step_of.result) - 512 * c.loop-at.at) (drop (512 * c.loop-at.at) c.loop-at.to)) / 512 ≡ c.step_of.result = omega arith in record {
      only =
          reads_some (g.I.Images.seen c.args.images.now) (g.I.Images.seen c.read_step.new.images) damage.rescue.now damage.set.now c.args.first (at + m) (length c.args.to.now / 512) (omega (arith, size))
          (reads_blocks (g.I.Images.seen c.args.images.now) (g.I.Images.seen c.loop-at.images) (g.I.Images.seen c.read_step.new.images) damage.rescue.now damage.set.now c.args.first at m c.loop-at.invariant.reads c.read_step.ensures.reads.only);
      cause = search rules;
    }

pub loop-at-preserved : goal.loop-at-preserved
loop-at-preserved g c =
    let damage = c.args.damage.now in
    let at = c.loop-at.at in
    let m : ℕ = length (take (512 * (c.loop-at.at + c.step_of.result) - 512 * c.loop-at.at) (drop (512 * c.loop-at.at) c.loop-at.to)) / 512 in
    let within = c.step_of.ensures.within in
    let before = c.loop-at.invariant.long in
    let size : length (take (512 * (c.loop-at.at + c.step_of.result) - 512 * c.loop-at.at) (drop (512 * c.loop-at.at) c.loop-at.to)) / 512 ≡ c.step_of.result = omega arith in
    let long : length c.read_step.new.to ≡ 512 * c.step_of.result = omega (arith, c.step_of.ensures.within) in
    let stays : (g.I.Images.seen c.read_step.new.images).faults ≡ (g.I.Images.seen c.loop-at.images).faults = search rules in
    record {
      within = omega arith;
      long = search rules;
      can = c.read_step.ensures.can;
      reads =
          reads_some (g.I.Images.seen c.args.images.now) (g.I.Images.seen c.read_step.new.images) damage.rescue.now damage.set.now c.args.first (at + m) (at + c.step_of.result) (omega (arith, size))
          (reads_blocks (g.I.Images.seen c.args.images.now) (g.I.Images.seen c.loop-at.images) (g.I.Images.seen c.read_step.new.images) damage.rescue.now damage.set.now c.args.first at m c.loop-at.invariant.reads c.read_step.ensures.reads.only);
      stays = stays ∙ c.loop-at.invariant.stays;
      told =
          part_on (told_all (g.I.Images.seen c.args.images.now).attached) damage.rescue.now damage.set.now c.args.first at (at + c.step_of.result) m _ c.loop-at.to c.read_step.new.to
          (omega arith) (omega (arith, size)) (omega (arith, size, long)) (omega arith) c.loop-at.invariant.told (rw (← c.loop-at.invariant.reads.attached) c.in_ok-read_step.ensures.told);
    }

pub returns-clause-told : goal.returns-clause-told
returns-clause-told g c =
    let whole = c.requires.whole in
    let long = c.loop-at.invariant.long in
    part_whole (told_all (g.I.Images.seen c.args.images.now).attached) c.args.damage.now.rescue.now c.args.damage.now.set.now c.args.first c.loop-at.at (length c.args.to.now / 512) c.loop-at.to (omega (arith, c.loop-at.invariant.within)) (omega arith) c.loop-at.invariant.told

pub returns-clause-reads : goal.returns-clause-reads
returns-clause-reads g c =
    let damage = c.args.damage.now in record {
      only = reads_some (g.I.Images.seen c.args.images.now) (g.I.Images.seen c.loop-at.images) damage.rescue.now damage.set.now c.args.first c.loop-at.at (length c.args.to.now / 512) c.loop-at.invariant.within c.loop-at.invariant.reads;
      cause = search rules;
    }
