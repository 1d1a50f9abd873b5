use Rattle.std.proofs.Common.{get_or}
use Rattle.relation_prefix.specs.Ties.{ForeignHaveNone}
use Rattle.relation_prefix.proofs.whole.foreign_fit.Given as goal

abbrev pub invariant-loop-image : goal.invariant-loop-image
invariant-loop-image l = ForeignHaveNone l.ties (λ t. get_or l.values t 0) l.slots l.image
