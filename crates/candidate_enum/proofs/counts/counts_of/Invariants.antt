use Rattle.std.proofs.Common.{◌≡◌, length, take}
use Rattle.candidate_enum.specs.Counts.{AreCells}
use Rattle.candidate_enum.proofs.counts.counts_of.Given as goal

abbrev pub invariant-loop-at : goal.invariant-loop-at
invariant-loop-at l = record {
  cells : AreCells l.space (take l.at l.counts);
  long : length l.counts ≡ 625;
}
