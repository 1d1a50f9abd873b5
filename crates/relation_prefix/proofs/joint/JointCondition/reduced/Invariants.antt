use Rattle.std.proofs.Common.{ℕ, ◌≡◌, ◌<◌, get_or}
use Rattle.relation_prefix.specs.Joint.{AsksOf, MeetsSum, MeetSums}
use Rattle.relation_prefix.proofs.joint.JointCondition.reduced.Given as goal

abbrev pub invariant-loop-at : goal.invariant-loop-at
invariant-loop-at l = record {
  same : l.known ≡ l.fn.known;
  asks : AsksOf l.count l.rest;
  cleared : (u : ℕ) → u < l.at → get_or l.rest.coefficients u 0 ≡ 0;
  met : (x : ℕ → ℕ) (a b : ℕ) → a < 256 → b < 256 → MeetSums x a b l.fn.known → MeetsSum x a b l.self → MeetsSum x a b l.rest;
}
