use Rattle.std.proofs.Common.{ℕ, ◌↔◌}
use Rattle.relation_prefix.specs.Systems.{AreValues, IsTriangular, Solves}
use Rattle.relation_prefix.specs.Ties.{HaveWeights}
use Rattle.relation_prefix.proofs.pins.pin_slots.Given as goal

abbrev pub invariant-loop-slot : goal.invariant-loop-slot
invariant-loop-slot l = record {
  triangular : IsTriangular l.system.conditions;
  pinned : (x : ℕ → ℕ) → AreValues x → (Solves x l.system.conditions ↔ (Solves x l.fn.system.conditions × HaveWeights l.ties x l.weights l.slots l.slot));
}
