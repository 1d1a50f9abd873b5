use Rattle.std.proofs.Common.{ℕ, ◌≡◌, ◌<◌, get_or}
use Rattle.relation_prefix.proofs.Systems.{IsLeft}
use Rattle.relation_prefix.proofs.system.System.add.Given as goal

abbrev pub invariant-loop-at : goal.invariant-loop-at
invariant-loop-at l = record {
  same : l.self.conditions ≡ l.fn.self.conditions;
  left : IsLeft l.fn.self.conditions l.condition l.rest;
  cleared : (u : ℕ) → u < l.at → get_or l.rest.coefficients u 0 ≡ 0;
}
