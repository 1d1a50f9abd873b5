use Rattle.std.proofs.Common.{ℕ, ◌≡◌, ◌<◌, Some, false}
use Rattle.relation_prefix.specs.Sampled.{may_begin_with}
use Rattle.relation_prefix.proofs.beginning.may_begin_with_one.Given as goal

abbrev pub invariant-loop-slot : goal.invariant-loop-slot
invariant-loop-slot l = (k : ℕ) → k < l.slot → may_begin_with l.rows l.test l.slots (Some k) ≡ false
