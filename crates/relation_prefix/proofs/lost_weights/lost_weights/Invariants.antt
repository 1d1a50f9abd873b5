use Rattle.std.proofs.Common.{ℕ, ◌<◌}
use Rattle.relation_prefix.specs.Joint.{AreSteps, HaveSums, MeetSums}
use Rattle.relation_prefix.proofs.lost_weights.lost_weights.Given as goal

abbrev pub invariant-loop-slot : goal.invariant-loop-slot
invariant-loop-slot l = record {
  steps : AreSteps l.ties.count l.known;
  met : (x : ℕ → ℕ) (a b : ℕ) → a < 256 → b < 256 → HaveSums l.ties l.weights l.slots x a b → MeetSums x a b l.known;
}
