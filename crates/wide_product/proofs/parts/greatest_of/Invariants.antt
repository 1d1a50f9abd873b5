use Rattle.std.proofs.Common.{◌≡◌, take, max}
use Rattle.std.specs.List.{fold}
use Rattle.wide_product.proofs.parts.greatest_of.Given as goal

abbrev pub invariant-loop-base : goal.invariant-loop-base
invariant-loop-base l = l.greatest ≡ fold max 0 (take l.base-index l.bases)
