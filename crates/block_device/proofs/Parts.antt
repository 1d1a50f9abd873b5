-- Parts of a list of bytes.
use Rattle.std.proofs.Common.{◌≡◌, ℕ, ◌+◌, ◌-◌, ◌*◌, ◌/◌, ◌%◌, ◌≤◌, List, ◌++◌, length, take, drop, slice_range, sym, ap, arith, ◌∙◌}
use Rattle.std.proofs.lemmas.List.{take-append-le, drop-append-le, take-take, drop-take, length-drop, drop-drop}

-- a part by where it begins and how long it is
pub part_of : (xs : List ℕ) (from count to : ℕ) → to ≡ from + count → slice_range xs from to ≡ take count (drop from xs)
part_of xs from count to end = let size : to - from ≡ count = omega arith in ap (λ (n : ℕ). take n (drop from xs)) size

-- a part of the front of a list
pub part_of_front : (front rest : List ℕ) (shift count : ℕ) → shift + count ≤ length front → slice_range (front ++ rest) shift (shift + count) ≡ take count (drop shift front)
part_of_front front rest shift count fits =
    part_of (front ++ rest) shift count (shift + count) (omega arith)
    ∙ ap (λ (xs : List ℕ). take count xs) (drop-append-le shift front rest (omega arith))
    ∙ take-append-le count (drop shift front) rest (omega (arith, length-drop shift front))

-- a part of a part
part_within : (xs : List ℕ) (a n shift count : ℕ) → shift + count ≤ n → take count (drop shift (slice_range xs a (a + n))) ≡ take count (drop (a + shift) xs)
part_within xs a n shift count fits =
    let size : n ≡ shift + (n - shift) = omega arith in
    ap (λ (ys : List ℕ). take count (drop shift ys)) (part_of xs a n (a + n) (omega arith) ∙ ap (λ (m : ℕ). take m (drop a xs)) size)
    ∙ ap (λ (ys : List ℕ). take count ys) (drop-take shift (n - shift) (drop a xs))
    ∙ take-take count (n - shift) (drop shift (drop a xs)) (omega arith)
    ∙ ap (λ (ys : List ℕ). take count ys) (drop-drop shift a xs)

-- the bytes of a device from an offset on, where its sectors were read into the front of a room
pub read_part : (offset count size : ℕ) (to rest content : List ℕ) → length to ≡ size → offset % 512 + count ≤ size → to ≡ slice_range content (512 * (offset / 512)) (512 * (offset / 512) + size) →
    slice_range (to ++ rest) (offset % 512) (offset % 512 + count) ≡ slice_range content offset (offset + count)
read_part offset count size to rest content same fits is =
    let shift = offset % 512 in
    let first = 512 * (offset / 512) in
    let at : first + shift ≡ offset = omega arith in
    part_of_front to rest shift count (omega arith)
    ∙ ap (λ (xs : List ℕ). take count (drop shift xs)) is
    ∙ part_within content first size shift count fits
    ∙ ap (λ (n : ℕ). take count (drop n content)) at
    ∙ sym (part_of content offset count (offset + count) (omega arith))
