use Rattle.std.proofs.Common.{◌≡◌, length, None}
use Rattle.std.specs.List.{position}
use Rattle.plan_sets.specs.Sets.{is_same_set}
use Rattle.set_product.proofs.Walks.{sets_before}
use Rattle.set_product.proofs.product.product_rank.Given as goal

abbrev pub invariant-loop-at : goal.invariant-loop-at
invariant-loop-at l = record {
  count : l.before ≡ length (sets_before l.plan l.at);
  none : position (is_same_set l.geo) (sets_before l.plan l.at) ≡ None;
}
