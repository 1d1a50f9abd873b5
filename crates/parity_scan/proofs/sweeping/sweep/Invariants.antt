use Rattle.std.proofs.Common.{◌≡◌, ◌≤◌, ◌-◌, length, IfSome}
use Rattle.outside.specs.Attached.{told_all}
use Rattle.member_regions.specs.Regions.{KeepsRoom}
use Rattle.parity_scan.specs.Pass.{ReadsWindows, TalliesTo}
use Rattle.parity_scan.specs.Tallies.{AllTallies, KeepSettled, NoneOpen}
use Rattle.parity_scan.proofs.sweeping.sweep.Given as goal

abbrev pub invariant-loop-run : goal.invariant-loop-run
invariant-loop-run g l = record {
  reads : ReadsWindows (g.I.Images.seen l.fn.images) (g.I.Images.seen l.images) l.scanned.scope.now l.scanned.sets.now 0 l.at;
  unread : NoneOpen l.fn.tallies → (g.I.Images.seen l.images ≡ g.I.Images.seen l.fn.images) × (l.tallies ≡ l.fn.tallies);
  quiet : (g.I.Images.seen l.images).faults ≡ (g.I.Images.seen l.fn.images).faults;
  told : IfSome (told_all (g.I.Images.seen l.fn.images).attached) (λ bytes. AllTallies (TalliesTo bytes l.scanned.scope.now 0) l.scanned.sets.now l.fn.tallies → AllTallies (TalliesTo bytes l.scanned.scope.now l.at) l.scanned.sets.now l.tallies);
  long : length l.tallies ≡ length l.scanned.sets.now;
  settled : KeepSettled l.fn.tallies l.tallies;
  room : KeepsRoom l.fn.regions l.regions;
  within : l.at ≤ l.scanned.scope.now.end;
}

abbrev pub decreases-loop-run : goal.decreases-loop-run
decreases-loop-run g l = l.scanned.scope.now.end - l.at
