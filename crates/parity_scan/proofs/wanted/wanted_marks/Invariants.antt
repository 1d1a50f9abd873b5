use Rattle.std.proofs.Common.{◌≡◌, length}
use Rattle.parity_scan.specs.Wanted.{MarkWanted}
use Rattle.parity_scan.proofs.wanted.wanted_marks.Given as goal

abbrev pub invariant-loop-k : goal.invariant-loop-k
invariant-loop-k l = record {
  long : length l.marks ≡ 256;
  marked : MarkWanted l.scanned.scope.now l.scanned.sets.now l.tallies l.run l.k l.marks;
}
