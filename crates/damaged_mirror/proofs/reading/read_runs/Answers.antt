use Rattle.std.proofs.Common.{ℕ, ◌≡◌, ◌+◌, ◌*◌, ◌≤◌, length, refl, sym, ◌∙◌, arith, rules}
use Rattle.outside.specs.Attached.{told_all}
use Rattle.outside.proofs.Reading.{reads_join, reads_none, reads_up}
use Rattle.near_mirror.proofs.Heads.{volume_fits}
use Rattle.near_volume.proofs.Mirrors.{mirrored_head}
use Rattle.damaged_mirror.proofs.GoodCopies.{good_among, good_there}
use Rattle.damaged_mirror.proofs.Told.{part_on, part_start, taken_told}
use Rattle.damaged_mirror.proofs.reading.read_runs.Goals as goal

pub loop-done-init : goal.loop-done-init
loop-done-init g c = record {
  within = omega arith;
  long = refl;
  told = part_start (told_all (g.I.Images.seen c.args.images.now).attached) c.args.damage.now.rescue.now c.args.damage.now.set.now c.args.damage.now.end c.args.first c.args.to.now;
  reads = reads_up (g.I.Images.seen c.args.images.now) (g.I.Images.seen c.args.images.now) (reads_none (g.I.Images.seen c.args.images.now)) (omega arith);
  stays = refl;
}

pub overflow_add-at : goal.overflow_add-at
overflow_add-at g c =
    let damage = c.args.damage.now in
    omega (arith, volume_fits damage.set.now.head damage.end (mirrored_head damage.set.now damage.end (g.I.Images.seen c.args.images.now).attached c.requires.set) c.requires.set.near)

pub read_copy-requires-clause-copy : goal.read_copy-requires-clause-copy
read_copy-requires-clause-copy g c =
    let damage = c.args.damage.now in
    good_among damage.rescue.now damage.set.now damage.end (c.args.first + c.loop-done.done) c.in-Some.copy (sym c.in-Some.ensures)

pub read_copy-requires-clause-there : goal.read_copy-requires-clause-there
read_copy-requires-clause-there g c =
    let damage = c.args.damage.now in
    good_there damage.rescue.now damage.set.now damage.end (c.args.first + c.loop-done.done) c.in-Some.copy (sym c.in-Some.ensures)

pub loop-done-preserved : goal.loop-done-preserved
loop-done-preserved g c =
    let damage = c.args.damage.now in
    let run : ℕ = c.taken_run-run.result in
    let few = c.taken_run-run.ensures.few in
    let before = c.loop-done.invariant.long in
    let kept = c.read_copy.ensures.long in
    let long : length c.read_copy.new.to ≡ 512 * run = omega arith in
    let within : 512 * c.loop-done.done ≤ length c.loop-done.to = omega arith in
    let here = taken_told (told_all (g.I.Images.seen c.loop-done.images).attached) damage.rescue.now damage.set.now damage.end c.in-Some.copy (c.args.first + c.loop-done.done) run c.read_copy.new.to
    c.taken_run-run.ensures.same (search rules) in
    record {
      within = omega arith;
      long = omega arith;
      told =
          part_on (told_all (g.I.Images.seen c.args.images.now).attached) damage.rescue.now damage.set.now damage.end c.args.first c.loop-done.done (c.loop-done.done + run) run _ c.loop-done.to c.read_copy.new.to
          (omega arith) (omega arith) long within c.loop-done.invariant.told (rw (← c.loop-done.invariant.reads.attached) here);
      reads = reads_up (g.I.Images.seen c.args.images.now) (g.I.Images.seen c.read_copy.new.images)
          (reads_join (g.I.Images.seen c.args.images.now) (g.I.Images.seen c.loop-done.images) (g.I.Images.seen c.read_copy.new.images) c.loop-done.invariant.reads c.read_copy.ensures.reads) (omega arith);
      stays = (let still : (g.I.Images.seen c.read_copy.new.images).faults ≡ (g.I.Images.seen c.loop-done.images).faults = search rules in still ∙ c.loop-done.invariant.stays);
    }
