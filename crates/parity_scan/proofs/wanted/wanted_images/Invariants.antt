use Rattle.std.proofs.Common.{◌≡◌, length}
use Rattle.parity_scan.specs.Wanted.{AreWanted}
use Rattle.parity_scan.proofs.wanted.wanted_images.Given as goal

abbrev pub invariant-loop-image : goal.invariant-loop-image
invariant-loop-image l = record {
  long : length l.slots.items ≡ l.image;
  wanted : AreWanted l.scanned.scope.now l.scanned.sets.now l.tallies l.fn.run l.slots.items l.image;
}
