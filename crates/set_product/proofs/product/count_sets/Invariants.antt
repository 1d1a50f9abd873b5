use Rattle.std.proofs.Common.{◌≡◌, ◌^◌, min, length}
use Rattle.set_product.proofs.Walks.{sets_before}
use Rattle.set_product.proofs.product.count_sets.Given as goal

abbrev pub invariant-loop-at : goal.invariant-loop-at
invariant-loop-at l = l.sum ≡ min (length (sets_before l.plan l.at)) (2 ^ 64)
