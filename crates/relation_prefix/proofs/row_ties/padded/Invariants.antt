use Rattle.std.proofs.Common.{ℕ, ◌≡◌, ◌<◌, length, get_or}
use Rattle.relation_prefix.proofs.row_ties.padded.Given as goal

abbrev pub invariant-loop-t : goal.invariant-loop-t
invariant-loop-t l = record {
  long : length l.all ≡ 8;
  same : (k : ℕ) → k < l.t → get_or l.all k 0 ≡ get_or l.list k 0;
}
