use Rattle.std.proofs.Common.{ℕ, ◌≡◌, ◌<◌, Option, length, map, take, get_or, IsSomeAnd}
use Rattle.raid_terms.specs.Parity.{in_p}
use Rattle.row_parity.specs.Syndromes.{known_sum}
use Rattle.parity_scan.specs.ImageSums.{held_byte, marked_sum}
use Rattle.parity_scan.proofs.left_out.added_images.Given as goal

abbrev pub invariant-loop-place : goal.invariant-loop-place
invariant-loop-place l = record {
  long : length l.marks ≡ 24;
  held : (i : ℕ) (d : Option ℕ) → i < l.place → IsSomeAnd (get_or l.slots i d) (λ image. image < l.images);
  sums : (f : ℕ → ℕ) → known_sum in_p (take l.place l.cells) (map (held_byte f) l.slots) ≡ marked_sum f l.marks l.images;
}
