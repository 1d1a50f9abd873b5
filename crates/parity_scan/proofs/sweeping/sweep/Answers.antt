use Rattle.std.proofs.Common.{◌≡◌, ◌+◌, length, rules, Some, sym, ap, ◌∙◌}
use Rattle.outside.specs.Attached.{told_all}
use Rattle.member_regions.proofs.IfTold.{if_told}
use Rattle.parity_scan.specs.Pass.{HoldAsked, TalliesAll, TalliesTo}
use Rattle.std.specs.List.{list_any}
use Rattle.parity_scan.specs.Tallies.{AllTallies, is_open, NoneOpen}
use Rattle.parity_scan.proofs.Asked.{reads_wanted, wanted_held}
use Rattle.parity_scan.proofs.Settled.{keep_added, keep_both}
use Rattle.parity_scan.proofs.Sweeps.{swept_on, windows_join, windows_more, windows_run}
use Rattle.parity_scan.proofs.Tallying.{decided_after, decided_still, to_after}
use Rattle.parity_scan.proofs.sweeping.sweep.Goals as goal

pub returns-in_err-read-clause-reads : goal.returns-in_err-read-clause-reads
returns-in_err-read-clause-reads g c =
    let few : length c.deref.result.now ≡ length (g.I.Images.seen c.loop-run.images).attached =
    ap length c.deref.ensures.0 ∙ c.wanted_images-wanted.ensures.slots ∙ sym c.requires.can.planned ∙ sym (ap length c.loop-run.invariant.reads.reads.attached) in
    windows_join (g.I.Images.seen c.args.images.now) (g.I.Images.seen c.loop-run.images) (g.I.Images.seen c.read.new.images) c.args.scanned.now.scope.now c.args.scanned.now.sets.now 0 c.loop-run.at c.args.scanned.now.scope.now.end c.loop-run.invariant.reads
    (windows_more (g.I.Images.seen c.loop-run.images) (g.I.Images.seen c.read.new.images) c.args.scanned.now.scope.now c.args.scanned.now.sets.now c.loop-run.at (c.in-Some.run'.first + c.in-Some.run'.count) c.args.scanned.now.scope.now.end c.in-Some.ensures.next.within
    (windows_run (g.I.Images.seen c.loop-run.images) (g.I.Images.seen c.read.new.images) c.args.scanned.now.scope.now c.args.scanned.now.sets.now c.loop-run.tallies (length c.args.scanned.now.sets.now) c.loop-run.at c.in-Some.run' c.in-Some.ensures.next
    (reads_wanted (g.I.Images.seen c.loop-run.images) (g.I.Images.seen c.read.new.images) c.deref.result.now (length (g.I.Images.seen c.loop-run.images).attached) c.in-Some.run'.count few c.read.ensures.reads)))

pub loop-run-preserved : goal.loop-run-preserved
loop-run-preserved g c =
    let few : length c.deref.result.now ≡ length (g.I.Images.seen c.loop-run.images).attached =
    ap length c.deref.ensures.0 ∙ c.wanted_images-wanted.ensures.slots ∙ sym c.requires.can.planned ∙ sym (ap length c.loop-run.invariant.reads.reads.attached) in
    record {
      reads =
          windows_join (g.I.Images.seen c.args.images.now) (g.I.Images.seen c.loop-run.images) (g.I.Images.seen c.read.new.images) c.args.scanned.now.scope.now c.args.scanned.now.sets.now 0 c.loop-run.at (c.in-Some.run'.first + c.in-Some.run'.count) c.loop-run.invariant.reads
          (windows_run (g.I.Images.seen c.loop-run.images) (g.I.Images.seen c.read.new.images) c.args.scanned.now.scope.now c.args.scanned.now.sets.now c.loop-run.tallies (length c.args.scanned.now.sets.now) c.loop-run.at c.in-Some.run' c.in-Some.ensures.next
          (reads_wanted (g.I.Images.seen c.loop-run.images) (g.I.Images.seen c.read.new.images) c.deref.result.now (length (g.I.Images.seen c.loop-run.images).attached) c.in-Some.run'.count few c.read.ensures.reads));
      unread = λ none.
          let closed : NoneOpen c.loop-run.tallies = ap (list_any is_open) (c.loop-run.invariant.unread none).1 ∙ none in
          let nothing = c.in-Some.ensures.closed closed in
          absurd (cc);
      quiet = search rules;
      told =
          swept_on (g.I.Images.seen c.args.images.now).attached (g.I.Images.seen c.loop-run.images).attached c.args.scanned.now.scope.now c.args.scanned.now.sets.now 0 c.loop-run.at (Some (c.in-Some.run'.first + c.in-Some.run'.count)) c.args.tallies.now c.loop-run.tallies c.add_run.new.tallies
          c.loop-run.invariant.reads.reads.attached c.loop-run.invariant.told
          (if_told (told_all (g.I.Images.seen c.loop-run.images).attached)
          (λ bytes. HoldAsked bytes c.args.scanned.now.scope.now c.args.scanned.now.sets.now c.loop-run.tallies c.in-Some.run' c.read.new.self)
          (λ bytes. AllTallies (TalliesTo bytes c.args.scanned.now.scope.now c.loop-run.at) c.args.scanned.now.sets.now c.loop-run.tallies → AllTallies (TalliesTo bytes c.args.scanned.now.scope.now (c.in-Some.run'.first + c.in-Some.run'.count)) c.args.scanned.now.sets.now c.add_run.new.tallies)
          (λ bytes hold so_far. to_after bytes c.args.scanned.now.scope.now c.args.scanned.now.sets.now c.in-Some.run' c.read.new.self c.loop-run.at c.loop-run.tallies c.add_run.new.tallies c.loop-run.invariant.long c.in-Some.ensures.next c.add_run.ensures.added hold so_far)
          (wanted_held (g.I.Images.seen c.loop-run.images).attached (g.I.Images.seen c.args.images.now).attached c.args.scanned.now.scope.now c.args.scanned.now.sets.now c.loop-run.tallies c.in-Some.run' c.wanted_images-wanted.result.items c.deref.result.now c.args.regions.now c.read.new.self
          c.requires.can c.wanted_images-wanted.ensures.wanted c.wanted_images-wanted.ensures.slots c.deref.ensures.0 c.in_ok-read.ensures.told));
      long = search rules;
      settled =
          keep_both c.args.tallies.now c.loop-run.tallies c.add_run.new.tallies (c.loop-run.invariant.long ∙ sym c.requires.long) c.loop-run.invariant.settled
          (keep_added c.args.scanned.now.scope.now c.args.scanned.now.sets.now c.in-Some.run' c.read.new.self c.loop-run.tallies c.add_run.new.tallies c.loop-run.invariant.long c.add_run.ensures.added);
      room = search rules;
      within = search rules;
    }

pub returns-then-at-eq0-clause-told : goal.returns-then-at-eq0-clause-told
returns-then-at-eq0-clause-told g c =
    if_told (told_all (g.I.Images.seen c.args.images.now).attached)
    (λ bytes. AllTallies (TalliesTo bytes c.args.scanned.now.scope.now 0) c.args.scanned.now.sets.now c.args.tallies.now → AllTallies (TalliesTo bytes c.args.scanned.now.scope.now c.loop-run.at) c.args.scanned.now.sets.now c.loop-run.tallies)
    (λ bytes. AllTallies (TalliesTo bytes c.args.scanned.now.scope.now 0) c.args.scanned.now.sets.now c.args.tallies.now → AllTallies (TalliesAll bytes c.args.scanned.now.scope.now) c.args.scanned.now.sets.now c.add_in_pieces.new.tallies)
    (λ bytes so_far begun. decided_still bytes c.args.scanned.now.scope.now c.args.scanned.now.sets.now c.loop-run.regions c.loop-run.at c.loop-run.tallies c.add_in_pieces.new.tallies c.loop-run.invariant.long (rw c.empty.ensures at c.add_in_pieces.ensures.added) c.in_default.ensures.next (so_far begun))
    c.loop-run.invariant.told

pub returns-then-at-eq0-clause-settled : goal.returns-then-at-eq0-clause-settled
returns-then-at-eq0-clause-settled g c =
    keep_both c.args.tallies.now c.loop-run.tallies c.add_in_pieces.new.tallies (c.loop-run.invariant.long ∙ sym c.requires.long) c.loop-run.invariant.settled
    (keep_added c.args.scanned.now.scope.now c.args.scanned.now.sets.now c.empty.result c.loop-run.regions c.loop-run.tallies c.add_in_pieces.new.tallies c.loop-run.invariant.long c.add_in_pieces.ensures.added)

pub returns-then-at-eq0-clause-reads : goal.returns-then-at-eq0-clause-reads
returns-then-at-eq0-clause-reads g c =
    windows_more (g.I.Images.seen c.args.images.now) (g.I.Images.seen c.loop-run.images) c.args.scanned.now.scope.now c.args.scanned.now.sets.now 0 c.loop-run.at c.args.scanned.now.scope.now.end c.loop-run.invariant.within c.loop-run.invariant.reads

pub returns-else-at-eq0-clause-told : goal.returns-else-at-eq0-clause-told
returns-else-at-eq0-clause-told g c =
    if_told (told_all (g.I.Images.seen c.args.images.now).attached)
    (λ bytes. AllTallies (TalliesTo bytes c.args.scanned.now.scope.now 0) c.args.scanned.now.sets.now c.args.tallies.now → AllTallies (TalliesTo bytes c.args.scanned.now.scope.now c.loop-run.at) c.args.scanned.now.sets.now c.loop-run.tallies)
    (λ bytes. AllTallies (TalliesTo bytes c.args.scanned.now.scope.now 0) c.args.scanned.now.sets.now c.args.tallies.now → AllTallies (TalliesAll bytes c.args.scanned.now.scope.now) c.args.scanned.now.sets.now c.loop-run.tallies)
    (λ bytes so_far begun. decided_after bytes c.args.scanned.now.scope.now c.args.scanned.now.sets.now c.loop-run.at c.loop-run.tallies c.in_default.ensures.next (so_far begun))
    c.loop-run.invariant.told

pub returns-else-at-eq0-clause-reads : goal.returns-else-at-eq0-clause-reads
returns-else-at-eq0-clause-reads g c =
    windows_more (g.I.Images.seen c.args.images.now) (g.I.Images.seen c.loop-run.images) c.args.scanned.now.scope.now c.args.scanned.now.sets.now 0 c.loop-run.at c.args.scanned.now.scope.now.end c.loop-run.invariant.within c.loop-run.invariant.reads
