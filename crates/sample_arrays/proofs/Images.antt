-- The image of a slot, sector by sector.
use Rattle.std.proofs.Common.{◌≡◌, ℕ, ◌+◌, ◌*◌, List, ◌++◌, replicate, sym, ap, ◌∙◌, append_assoc, append-nil, arith}
use Rattle.std.specs.List.{flat_map, range_with_len}
use Rattle.raid_params.specs.declared.types.Head.{Head}
use Rattle.sample_arrays.proofs.Ranges.{flat_more}
use Rattle.sample_arrays.specs.Arrays.{image_of, member_sector}

-- the zeros and the first n sectors of the member
unfoldable pub image_front : (ℕ → List ℕ) → Head → ℕ → ℕ → List ℕ
image_front volume head slot n = replicate (512 * head.offset) 0 ++ flat_map (member_sector volume head slot) (range_with_len 0 n)

pub no_sectors : (volume : ℕ → List ℕ) (head : Head) (slot : ℕ) → image_front volume head slot 0 ≡ replicate (512 * head.offset) 0
unfolding image_front
no_sectors volume head slot = append-nil (replicate (512 * head.offset) 0)

pub one_sector_more : (volume : ℕ → List ℕ) (head : Head) (slot n : ℕ) → image_front volume head slot (n + 1) ≡ image_front volume head slot n ++ member_sector volume head slot n
unfolding image_front
one_sector_more volume head slot n =
    ap (λ (l : List ℕ). replicate (512 * head.offset) 0 ++ l) (flat_more (member_sector volume head slot) 0 n n (omega arith))
    ∙ sym (append_assoc (replicate (512 * head.offset) 0) (flat_map (member_sector volume head slot) (range_with_len 0 n)) (member_sector volume head slot n))

pub image_is : (volume : ℕ → List ℕ) (head : Head) (rows slot n : ℕ) (image : List ℕ) → n ≡ rows * head.chunk → image ≡ image_front volume head slot n → image ≡ image_of volume head rows slot
unfolding image_front image_of
image_is volume head rows slot n image all is = is ∙ ap (λ (k : ℕ). image_front volume head slot k) all
