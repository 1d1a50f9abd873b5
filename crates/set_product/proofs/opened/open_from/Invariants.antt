use Rattle.std.proofs.Common.{◌≡◌}
use Rattle.set_product.specs.Left.{heads_after}
use Rattle.set_product.proofs.opened.open_from.Given as goal

abbrev pub invariant-loop-at : goal.invariant-loop-at
invariant-loop-at l = heads_after l.plan l.from ≡ heads_after l.plan l.at
