use Rattle.std.proofs.Common.{◌≡◌, ◌<◌, ◌^◌, ◌-◌, ◌++◌, List, ℕ, Some, length, slice_get}
use Rattle.wide_product.specs.Bases.{base_lists}
use Rattle.wide_product.proofs.base_lists.bases_at.Given as goal

abbrev pub invariant-loop-image : goal.invariant-loop-image
invariant-loop-image l = record {
  long : length l.bases.items ≡ l.image;
  below : l.rest < length (base_lists l.offsets (l.images - l.image));
  few : length (base_lists l.offsets (l.images - l.image)) < 2 ^ 64;
  front : (tail : List ℕ) → slice_get (base_lists l.offsets (l.images - l.image)) l.rest ≡ Some tail → slice_get (base_lists l.offsets l.images) l.fn.rank ≡ Some (l.bases.items ++ tail);
}
