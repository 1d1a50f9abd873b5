use Rattle.std.proofs.Common.{◌≡◌, ◌≤◌, ◌*◌, ◌+◌, ◌-◌, drop, length}
use Rattle.std.specs.List.{position}
use Rattle.wide_product.specs.Bases.{base_lists, same_bases}
use Rattle.wide_product.proofs.Lists.{later}
use Rattle.wide_product.proofs.base_lists.bases_rank.Given as goal

abbrev pub invariant-loop-base : goal.invariant-loop-base
invariant-loop-base l = record {
  place : position (same_bases l.bases) (base_lists l.offsets (length l.bases)) ≡ later l.rank (length (base_lists l.offsets (length l.bases - l.base-index))) (position (same_bases (drop l.base-index l.bases)) (base_lists l.offsets (length l.bases - l.base-index)));
  few : l.rank * length (base_lists l.offsets (length l.bases - l.base-index)) + length (base_lists l.offsets (length l.bases - l.base-index)) ≤ length (base_lists l.offsets (length l.bases));
}
