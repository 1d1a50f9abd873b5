use Rattle.std.proofs.Common.{◌≡◌, ◌^◌, min, length}
use Rattle.wide_product.specs.Bases.{base_lists}
use Rattle.wide_product.proofs.base_lists.count_bases.Given as goal

abbrev pub invariant-loop : goal.invariant-loop
invariant-loop l = l.count ≡ min (length (base_lists l.offsets l.counter)) (2 ^ 64)
