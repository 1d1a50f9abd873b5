use Rattle.std.proofs.Common.{ℕ, IfSome, length}
use Rattle.relation_prefix.specs.Systems.{AreValues, AsksFirst}
use Rattle.relation_prefix.specs.Ties.{HaveWeights}
use Rattle.relation_prefix.proofs.demand.clashes.Given as goal

abbrev pub invariant-loop-slot : goal.invariant-loop-slot
invariant-loop-slot l = (x : ℕ → ℕ) → AreValues x → HaveWeights l.ties x l.weights l.slots (length l.slots) → IfSome l.first (AsksFirst x)
