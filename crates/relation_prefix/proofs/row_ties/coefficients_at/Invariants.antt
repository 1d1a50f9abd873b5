use Rattle.std.proofs.Common.{ℕ, ◌≡◌, ◌<◌, ◌≤◌, length, get_or}
use Rattle.relation_prefix.specs.Ties.{coefficient}
use Rattle.relation_prefix.proofs.row_ties.coefficients_at.Given as goal

abbrev pub invariant-loop-t : goal.invariant-loop-t
invariant-loop-t l = record {
  long : length l.coefficients ≡ 8;
  done : (k : ℕ) → k < l.t → get_or l.coefficients k 0 ≡ coefficient l.table (get_or l.list k 0) l.image;
  rest : (k : ℕ) → l.t ≤ k → get_or l.coefficients k 0 ≡ 0;
  bytes : (k : ℕ) → get_or l.coefficients k 0 < 256;
}
