use Rattle.std.proofs.Common.{◌≡◌, get_or}
use Rattle.gf256.specs.Field.{product}
use Rattle.row_relations.specs.Rows.{field_sum}
use Rattle.relation_prefix.specs.Ties.{coefficients_of}
use Rattle.relation_prefix.proofs.whole.weighed.Given as goal

abbrev pub invariant-loop-t : goal.invariant-loop-t
invariant-loop-t l = l.sum ≡ field_sum l.t (λ t. product (get_or (coefficients_of l.ties l.image) t 0) (get_or l.values t 0))
