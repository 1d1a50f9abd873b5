use Rattle.std.proofs.Common.{ℕ, ◌≡◌, ◌<◌, get_or}
use Rattle.relation_prefix.proofs.demand.is_first_alone.Given as goal

abbrev pub invariant-loop-t : goal.invariant-loop-t
invariant-loop-t l = (k : ℕ) → k < l.t → 0 < k → get_or l.coefficients k 0 ≡ 0
