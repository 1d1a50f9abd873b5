use Rattle.std.proofs.Common.{◌≡◌, length}
use Rattle.relation_prefix.proofs.weights.empty_set.Given as goal

abbrev pub invariant-loop : goal.invariant-loop
invariant-loop l = length l.slots.items ≡ l.counter
