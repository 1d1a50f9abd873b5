use Rattle.std.proofs.Common.{get_or}
use Rattle.relation_prefix.specs.Ties.{HaveWeights}
use Rattle.relation_prefix.proofs.whole.slots_fit.Given as goal

abbrev pub invariant-loop-slot : goal.invariant-loop-slot
invariant-loop-slot l = HaveWeights l.ties (λ t. get_or l.values t 0) l.weights l.slots l.slot
