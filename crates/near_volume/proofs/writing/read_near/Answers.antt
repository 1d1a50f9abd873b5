use Rattle.std.proofs.Common.{ℕ, ◌≡◌, ◌+◌, ◌*◌, ◌≤◌, length, take, refl, ◌∙◌, arith, rules}
use Rattle.outside.specs.Attached.{told_all}
use Rattle.outside.proofs.Reading.{reads_join, reads_none, reads_up}
use Rattle.member_regions.proofs.IfTold.{if_any, if_both}
use Rattle.near_mirror.proofs.Heads.{volume_fits}
use borrow.Rule.Slice.PartMut.{put_mid}
use Rattle.near_volume.specs.Sectors.{near_sector, sectors_of}
use Rattle.near_volume.proofs.Mirrors.{mirrored_head, mirrored_held}
use Rattle.virtual_volume.proofs.Blocks.{flat_on}
use Rattle.near_volume.proofs.writing.read_near.Goals as goal

pub overflow_add-first : goal.overflow_add-first
overflow_add-first g c = omega (arith, volume_fits c.args.set.now.head c.args.end (mirrored_head c.args.set.now c.args.end (g.I.Images.seen c.args.images.now).attached c.requires.set) c.requires.set.near)

pub overflow_add-first-in-loop-done : goal.overflow_add-first-in-loop-done
overflow_add-first-in-loop-done g c = omega (arith, volume_fits c.args.set.now.head c.args.end (mirrored_head c.args.set.now c.args.end (g.I.Images.seen c.args.images.now).attached c.requires.set) c.requires.set.near)

pub read_step-requires-clause-held : goal.read_step-requires-clause-held
read_step-requires-clause-held g c = rw c.loop-done.invariant.reads.attached (mirrored_held c.args.set.now c.args.end (g.I.Images.seen c.args.images.now).attached c.requires.set)

pub loop-done-init : goal.loop-done-init
unfolding sectors_of
loop-done-init g c = record {
  within = omega arith;
  long = refl;
  told =
      if_any (told_all (g.I.Images.seen c.args.images.now).attached)
      (λ bytes. take (512 * 0) c.args.to.now ≡ sectors_of bytes c.args.set.now c.args.end c.args.first 0)
      (λ bytes. refl);
  reads = reads_up (g.I.Images.seen c.args.images.now) (g.I.Images.seen c.args.images.now) (reads_none (g.I.Images.seen c.args.images.now)) (omega arith);
  stays = refl;
}

pub loop-done-preserved : goal.loop-done-preserved
unfolding sectors_of
loop-done-preserved g c =
    let run : ℕ = c.step_at-run.result in
    let long : length c.read_step.new.to ≡ 512 * run = omega arith in
    let within : 512 * c.loop-done.done ≤ length c.loop-done.to = omega arith in
    record {
      within = omega arith;
      long = omega arith;
      told =
          if_both (told_all (g.I.Images.seen c.args.images.now).attached)
          (λ bytes. take (512 * c.loop-done.done) c.loop-done.to ≡ sectors_of bytes c.args.set.now c.args.end c.args.first c.loop-done.done)
          (λ bytes. c.read_step.new.to ≡ sectors_of bytes c.args.set.now c.args.end (c.args.first + c.loop-done.done) run)
          (λ bytes. take (512 * (c.loop-done.done + run)) (put_mid (512 * c.loop-done.done) _ c.loop-done.to c.read_step.new.to) ≡ sectors_of bytes c.args.set.now c.args.end c.args.first (c.loop-done.done + run))
          (λ bytes before now. flat_on (near_sector bytes c.args.set.now c.args.end) c.args.first c.loop-done.done run (c.loop-done.done + run) _ c.loop-done.to c.read_step.new.to refl long within before now)
          c.loop-done.invariant.told
          (rw (← c.loop-done.invariant.reads.attached) (search rules));
      reads = reads_up (g.I.Images.seen c.args.images.now) (g.I.Images.seen c.read_step.new.images)
          (reads_join (g.I.Images.seen c.args.images.now) (g.I.Images.seen c.loop-done.images) (g.I.Images.seen c.read_step.new.images) c.loop-done.invariant.reads c.read_step.ensures.reads) (omega arith);
      stays = (let still : (g.I.Images.seen c.read_step.new.images).faults ≡ (g.I.Images.seen c.loop-done.images).faults = search rules in still ∙ c.loop-done.invariant.stays);
    }
