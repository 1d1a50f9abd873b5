-- The images that the places of a list hold.
use Rattle.std.proofs.Common.{◌≡◌, ℕ, zero, suc, ◌+◌, ◌<◌, ◌≤◌, List, [], ◌∷◌, length, ap, ◌∙◌, arith, Option, Some, None}
use Rattle.std.proofs.lemmas.List.Sums.{sum_by-cons}
use Rattle.std.specs.List.{range_with_len, slice_index_or, sum_by}
use Rattle.slot_math.specs.Ways.{AllImages}

-- what a place holds is an image below the number of images
pub image_below : (n k i : ℕ) (places : List (Option ℕ)) → AllImages n places → slice_index_or places k None ≡ Some i → i < n
image_below n k i [] all e = (cc)
image_below n zero i (None ∷ places) all e = (cc)
image_below n zero i (Some j ∷ places) all e = let same : j ≡ i = (cc) in let below = all.0 in omega arith
image_below n (suc k) i (None ∷ places) all e = image_below n k i places all e
image_below n (suc k) i (Some j ∷ places) all e = image_below n k i places all.1 e

-- and the place is one of the list
pub held_within : (k i : ℕ) (places : List (Option ℕ)) → slice_index_or places k None ≡ Some i → k < length places
held_within k i [] e = (cc)
held_within zero i (held ∷ places) e = omega arith
held_within (suc k) i (held ∷ places) e = let h = held_within k i places e in omega arith

-- images below a number are below a greater one
pub more_images : (n m : ℕ) (places : List (Option ℕ)) → n ≤ m → AllImages n places → AllImages m places
more_images n m [] le all = tt
more_images n m (None ∷ places) le all = more_images n m places le all
more_images n m (Some i ∷ places) le all = let below = all.0 in (omega arith, more_images n m places le all.1)

-- one number more
pub sum_more : (f : ℕ → ℕ) (k : ℕ) → sum_by f (range_with_len 0 (k + 1)) ≡ sum_by f (range_with_len 0 k) + f k
sum_more f k = let e : k + 1 ≡ suc k = omega arith in ap (λ (n : ℕ). sum_by f (range_with_len 0 n)) e ∙ from 0 k ∙ ap (λ (j : ℕ). sum_by f (range_with_len 0 k) + f j) (let z : 0 + k ≡ k = omega arith in z)
  where
    from : (a n : ℕ) → sum_by f (range_with_len a (suc n)) ≡ sum_by f (range_with_len a n) + f (a + n)
    from a zero = let h = sum_by-cons f a [] in let e : f a ≡ f (a + 0) = ap f (let z : a ≡ a + 0 = omega arith in z) in omega arith
    from a (suc n) =
        let h = sum_by-cons f a (range_with_len (a + 1) (suc n)) in
        let k = sum_by-cons f a (range_with_len (a + 1) n) in
        let rest = from (a + 1) n in
        let e : f (a + 1 + n) ≡ f (a + suc n) = ap f (let z : a + 1 + n ≡ a + suc n = omega arith in z) in
        omega arith
