-- The rows that all images have.
use Rattle.std.proofs.Common.{◌≡◌, ℕ, zero, suc, ◌+◌, ◌*◌, ◌<◌, ◌≤◌, ◌^◌, All, min, List, [], ◌∷◌, length, map, take, slice_index, fold, refl, sym, ap, ◌∙◌, arith}
use Rattle.std.specs.List.{range_with_len}
use Rattle.std.proofs.lemmas.List.FromFn.{get_or-map-range_with_len, length-map-range_with_len}
use Rattle.std.proofs.lemmas.List.Elements.{All-head, All-tail}
use Rattle.outside.specs.Seen.{Image, lengths_of}
use Rattle.run_ends.proofs.Lengths.{shortest_first, shortest_more}
use Rattle.run_ends.specs.Agreement.{shortest}
use Rattle.relation_job.specs.Looking.{HasRow, HasRows}
use Rattle.relation_job.specs.Sampling.{common_rows, count_to, row_number, rows_in}
use Rattle.relation_job.specs.declared.sampling.Sampling.{Sampling}
use Rattle.relation_job.proofs.Steps.{counted_below}

-- the least of a function over the numbers below n
pub least_first : (f : ℕ → ℕ) (n : ℕ) → 1 ≤ n → f 0 ≡ shortest (take 1 (map f (range_with_len 0 n)))
least_first f n some = sym (shortest_first (map f (range_with_len 0 n)) ∙ get_or-map-range_with_len f 0 n 0 0 0 some (omega arith))

pub least_more : (f : ℕ → ℕ) (n i least : ℕ) → 1 ≤ i → i < n → least ≡ shortest (take i (map f (range_with_len 0 n))) → min least (f i) ≡ shortest (take (i + 1) (map f (range_with_len 0 n)))
least_more f n i least some lt is =
    let long = length-map-range_with_len f 0 n in
    ap (λ (k : ℕ). min least k) (sym (get_or-map-range_with_len f 0 n i i 0 lt (omega arith))) ∙ shortest_more (map f (range_with_len 0 n)) i least some (omega arith) is

-- no image is too long
pub small_at : (attached : List Image) (i : ℕ) → All (λ image. image.sectors < 2 ^ 55) attached → slice_index (lengths_of attached) i < 2 ^ 55
small_at [] i small = omega arith
small_at (image ∷ images) zero small = All-head (λ (image : Image). image.sectors < 2 ^ 55) image images small
small_at (image ∷ images) (suc i) small = small_at images i (All-tail (λ (image : Image). image.sectors < 2 ^ 55) image images small)

-- the shortest is at most each
below_first : (ns : List ℕ) (n : ℕ) → fold min n ns ≤ n
below_first [] n = omega arith
below_first (k ∷ ns) n = let more = below_first ns (min n k) in omega arith

below_each : (ns : List ℕ) (n i : ℕ) → i < length ns → fold min n ns ≤ slice_index ns i
below_each [] n i lt = absurd (omega arith)
below_each (k ∷ ns) n zero lt = let more = below_first ns (min n k) in omega arith
below_each (k ∷ ns) n (suc i) lt = below_each ns (min n k) i (omega arith)

pub shortest_below : (ns : List ℕ) (i : ℕ) → i < length ns → shortest ns ≤ slice_index ns i
shortest_below [] i lt = absurd (omega arith)
shortest_below (n ∷ ns) zero lt = below_first ns n
shortest_below (n ∷ ns) (suc i) lt = below_each ns n i (omega arith)

pub each_has : (offsets : List ℕ) (attached : List Image) (image : ℕ) → image < length attached → common_rows offsets attached ≤ rows_in offsets attached image
each_has offsets attached image lt =
    let f = rows_in offsets attached in
    let long = length-map-range_with_len f 0 (length attached) in
    let at : slice_index (map f (range_with_len 0 (length attached))) image ≡ f image = get_or-map-range_with_len f 0 (length attached) image image 0 lt (omega arith) in
    let below = shortest_below (map f (range_with_len 0 (length attached))) image (omega arith) in
    omega arith

pub lengths_many : (attached : List Image) → length (lengths_of attached) ≡ length attached
lengths_many [] = refl
lengths_many (image ∷ images) = ap suc (lengths_many images)

-- so each image has it, where the end is not past the rows that all have
pub has_row : (offsets : List ℕ) (attached : List Image) (end row : ℕ) → end ≤ common_rows offsets attached → row < end → HasRow offsets (lengths_of attached) row
has_row offsets attached end row within below image lt =
    let many = lengths_many attached in
    let has = each_has offsets attached image (omega arith) in
    omega arith

-- and all rows that are counted
pub has_rows : (offsets : List ℕ) (attached : List Image) (sampling : Sampling) (end : ℕ) → 1 ≤ sampling.step → end ≤ common_rows offsets attached → sampling.rows ≡ count_to sampling.from sampling.step end → HasRows offsets (lengths_of attached) sampling
has_rows offsets attached sampling end some within is = λ k lt. has_row offsets attached end (sampling.from + sampling.step * k) within (counted_below sampling.from sampling.step end k some (omega (arith, is)))

-- a row that is looked at is near
pub row_near : (offsets : List ℕ) (attached : List Image) (sampling : Sampling) (k : ℕ) → HasRows offsets (lengths_of attached) sampling → All (λ image. image.sectors < 2 ^ 55) attached → 1 ≤ length attached → k < sampling.rows → row_number sampling k < 2 ^ 55
row_near offsets attached sampling k has small some lt =
    let first = has k lt 0 (omega (arith, lengths_many attached)) in
    let near = small_at attached 0 small in
    omega (arith, first, near)
