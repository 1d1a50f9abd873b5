use Rattle.std.proofs.Common.{◌≡◌, ◌+◌, length}
use Rattle.set_product.proofs.Walks.{sets_before}
use Rattle.set_product.proofs.product.product_set.Given as goal

abbrev pub invariant-loop-at : goal.invariant-loop-at
invariant-loop-at l = l.fn.rank ≡ length (sets_before l.plan l.at) + l.rest
