use Rattle.outside.specs.Attached.{told_all}
use Rattle.std.proofs.Common.{rules, refl, sym, subst, List, IfSome, ◌∙◌}
use Rattle.outside.specs.Seen.{Image}
use Rattle.member_regions.proofs.IfTold.{if_both}
use Rattle.parity_scan.specs.Pass.{TalliesSome}
use Rattle.parity_scan.specs.Tallies.{AllTallies}
use Rattle.parity_scan.proofs.Judging.{all_anew, all_begin, some_begin}
use Rattle.parity_scan.proofs.Settled.{keep_all, keep_anew, keep_both}
use Rattle.outside.proofs.Reading.{reads_none, reads_up}
use Rattle.parity_scan.proofs.samples.test_samples.Goals as goal

pub returns-then-not-are_open-clause-told : goal.returns-then-not-are_open-clause-told
returns-then-not-are_open-clause-told g c =
    all_begin (told_all (g.I.Images.seen c.args.images.now).attached) c.args.scanned.now.scope.now c.args.scanned.now.sets.now c.args.tallies.now c.requires.begin

pub returns-clause-told : goal.returns-clause-told
returns-clause-told g c =
    all_anew (told_all (g.I.Images.seen c.args.images.now).attached) c.args.scanned.now.scope.now c.loop-k.at c.args.scanned.now.sets.now c.loop-k.tallies c.count_anew.new.tallies
    c.loop-k.invariant.long c.count_anew.ensures.anew c.loop-k.invariant.told

pub loop-k-init : goal.loop-k-init
loop-k-init g c = record {
  reads = reads_up (g.I.Images.seen c.args.images.now) (g.I.Images.seen c.args.images.now) (reads_none (g.I.Images.seen c.args.images.now)) (search rules);
  quiet = refl;
  told = some_begin (told_all (g.I.Images.seen c.args.images.now).attached) c.args.scanned.now.scope.now c.args.scanned.now.sets.now c.args.tallies.now c.requires.begin;
  long = c.requires.long;
  settled = keep_all c.args.tallies.now;
  room = search rules;
}

pub loop-k-preserved : goal.loop-k-preserved
loop-k-preserved g c = record {
  reads = search rules;
  quiet = search rules;
  told =
      if_both (told_all (g.I.Images.seen c.args.images.now).attached)
      (λ bytes. AllTallies (TalliesSome bytes c.args.scanned.now.scope.now c.loop-k.at) c.args.scanned.now.sets.now c.loop-k.tallies)
      (λ bytes. AllTallies (TalliesSome bytes c.args.scanned.now.scope.now c.loop-k.at) c.args.scanned.now.sets.now c.loop-k.tallies → AllTallies (TalliesSome bytes c.args.scanned.now.scope.now c.in_ok-at.at) c.args.scanned.now.sets.now c.test_sample.new.tallies)
      (λ bytes. AllTallies (TalliesSome bytes c.args.scanned.now.scope.now c.in_ok-at.at) c.args.scanned.now.sets.now c.test_sample.new.tallies)
      (λ bytes so_far goes. goes so_far) c.loop-k.invariant.told
      (subst (λ (attached : List Image). IfSome (told_all attached) (λ bytes. AllTallies (TalliesSome bytes c.args.scanned.now.scope.now c.loop-k.at) c.args.scanned.now.sets.now c.loop-k.tallies → AllTallies (TalliesSome bytes c.args.scanned.now.scope.now c.in_ok-at.at) c.args.scanned.now.sets.now c.test_sample.new.tallies))
      c.loop-k.invariant.reads.attached c.in_ok-at.ensures.told);
  long = search rules;
  settled = keep_both c.args.tallies.now c.loop-k.tallies c.test_sample.new.tallies (c.loop-k.invariant.long ∙ sym c.requires.long) c.loop-k.invariant.settled c.test_sample.ensures.settled;
  room = search rules;
}

pub returns-clause-settled : goal.returns-clause-settled
returns-clause-settled g c =
    keep_both c.args.tallies.now c.loop-k.tallies c.count_anew.new.tallies (c.loop-k.invariant.long ∙ sym c.requires.long) c.loop-k.invariant.settled
    (keep_anew c.args.scanned.now.scope.now.limits.badrows c.loop-k.tallies c.count_anew.new.tallies c.count_anew.ensures.anew)
