-- What the images of later places can add.
use Rattle.std.proofs.Common.{◌≡◌, ℕ, zero, suc, ◌+◌, ◌-◌, ◌<◌, ◌≤◌, List, [], ◌∷◌, ◌++◌, length, map, cond, arith, length-append, ap, sym, refl, ◌∙◌, Bool, true, false, not, ◌||◌, ◌==◌, if◌then◌else◌, Option, Some, None, inl, inr}
use Rattle.std.proofs.lemmas.Bool.{and_parts, cases_eq, not-true, eqb-true}
use Rattle.std.proofs.Math.Nat.{le-max_left, le-max_right}
use Rattle.std.specs.List.{fold, range_with_len}
use Rattle.std.specs.Prelude.{max}
use Rattle.raid_params.specs.Slots.{is_distinct, stands}
use Rattle.slot_math.specs.Ways.{AllImages}
use Rattle.mark_tables.specs.Marks.{counted_in, most_from, reserves}
use Rattle.mark_tables.proofs.Placing.{counted_placed}
use Rattle.slot_math.proofs.Placed.{by_image, placed, placed_append, placed_le, plus_is, total, total_le, total_sum, where_it_stands}

-- the greatest of a list is no smaller than what it began with, nor than each element
max_start : (a : ℕ) (xs : List ℕ) → a ≤ fold max a xs
max_start a [] = omega arith
max_start a (x ∷ xs) = let h = max_start (max a x) xs in let k = le-max_left a x in omega arith

max_of : (f : ℕ → ℕ) (a from n s : ℕ) → from ≤ s → s < from + n → f s ≤ fold max a (map f (range_with_len from n))
max_of f a from zero s le lt = absurd (omega arith)
max_of f a from (suc n) s le lt =
    elim (cases_eq from s) [
      | inl e ↦
          let h : max a (f from) ≤ fold max (max a (f from)) (map f (range_with_len (from + 1) n)) = max_start (max a (f from)) (map f (range_with_len (from + 1) n)) in
          let k : f from ≤ max a (f from) = le-max_right a (f from) in
          let same : f from ≡ f s = ap f e in
          omega arith
      | inr ne ↦ max_of f (max a (f from)) (from + 1) n s (omega arith) (omega arith)
    ]

pub in_most : (count : ℕ → ℕ → ℕ) (members from s image : ℕ) → from ≤ s → s < members → count s image ≤ most_from count members from image
unfolding most_from
in_most count members from s image le lt = max_of (λ k. count k image) 0 from (members - from) s le (omega arith)

-- parts of a list of different images
all_parts : (n : ℕ) (xs ys : List (Option ℕ)) → AllImages n (xs ++ ys) → AllImages n ys
all_parts n [] ys all = all
all_parts n (None ∷ xs) ys all = all_parts n xs ys all
all_parts n (Some i ∷ xs) ys all = all_parts n xs ys all.1

distinct_parts : (xs ys : List (Option ℕ)) → is_distinct (xs ++ ys) ≡ true → is_distinct ys ≡ true
unfolding is_distinct
distinct_parts [] ys apart = apart
distinct_parts (None ∷ xs) ys apart = distinct_parts xs ys apart
distinct_parts (Some i ∷ xs) ys apart = distinct_parts xs ys (and_parts (not (stands i (xs ++ ys))) (is_distinct (xs ++ ys)) apart).1

or_parts : (a b : Bool) → (a || b) ≡ false → (a ≡ false) × (b ≡ false)
or_parts false b e = (refl, e)
or_parts true b e = (cc)

right_parts : (i : ℕ) (xs ys : List (Option ℕ)) → stands i (xs ++ ys) ≡ false → stands i ys ≡ false
unfolding stands
right_parts i [] ys none = none
right_parts i (None ∷ xs) ys none = right_parts i xs ys none
right_parts i (Some k ∷ xs) ys none = right_parts i xs ys (or_parts (i == k) (stands i (xs ++ ys)) none).1

-- an image of a later place stands in no earlier one
later_only : (i : ℕ) (xs ys : List (Option ℕ)) → is_distinct (xs ++ ys) ≡ true → stands i ys ≡ true → stands i xs ≡ false
unfolding stands is_distinct
later_only i [] ys apart later = refl
later_only i (None ∷ xs) ys apart later = later_only i xs ys apart later
later_only i (Some k ∷ xs) ys apart later =
    let parts = and_parts (not (stands k (xs ++ ys))) (is_distinct (xs ++ ys)) apart in
    let absent : stands k ys ≡ false = right_parts k xs ys (not-true (stands k (xs ++ ys)) parts.0) in
    elim (cases_eq i k) [
      | inl e ↦ let here : stands k ys ≡ true = ap (λ (j : ℕ). stands j ys) (sym e) ∙ later in let bad : true ≡ false = sym here ∙ absent in (cc)
      | inr ne ↦ off (i == k) (stands i xs) (λ t. ne (eqb-true i k t)) (later_only i xs ys parts.1 later)
    ]
  where
    off : (a b : Bool) → (a ≡ true → ⊥) → b ≡ false → (a || b) ≡ false
    off true b no_first e = absurd (no_first refl)
    off false b no_first e = e

pick_le : (a b : Bool) (m : ℕ) → (a ≡ true → b ≡ false) → cond a m 0 ≤ cond b 0 m
pick_le true true m apart = let e = apart refl in (cc)
pick_le true false m apart = omega arith
pick_le false true m apart = omega arith
pick_le false false m apart = omega arith

-- what the later places count is within the reserves
pub later_within : (count : ℕ → ℕ → ℕ) (images members : ℕ) (prefix later : List (Option ℕ)) → length (prefix ++ later) ≤ members → AllImages images (prefix ++ later) →
    is_distinct (prefix ++ later) ≡ true → placed ◌+◌ count (length prefix) later ≤ reserves count images members prefix
later_within count images members prefix later within all apart =
    let from = length prefix in
    let f : ℕ → ℕ = λ i. most_from count members (length prefix) i in
    let room : length prefix + length later ≤ members = omega (arith, length-append prefix later) in
    let a : placed ◌+◌ count (length prefix) later ≤ placed ◌+◌ (λ s i. most_from count members (length prefix) i) (length prefix) later
    = placed_le count (λ s i. most_from count members (length prefix) i) (length prefix) members later room (λ s i le lt. in_most count members (length prefix) s i le lt) in
    let b : placed ◌+◌ (λ s i. most_from count members (length prefix) i) (length prefix) later ≡ total ◌+◌ (where_it_stands later f) (range_with_len 0 images)
    = by_image ◌+◌ f images (length prefix) later plus_is (all_parts images prefix later all) (distinct_parts prefix later apart) in
    let c : total ◌+◌ (where_it_stands later f) (range_with_len 0 images) ≤ total ◌+◌ (λ i. if stands i prefix then 0 else f i) (range_with_len 0 images)
    = total_le (where_it_stands later f) (λ i. if stands i prefix then 0 else f i) 0 images (λ i. pick_le (stands i later) (stands i prefix) (f i) (later_only i prefix later apart)) in
    let d : total ◌+◌ (λ i. if stands i prefix then 0 else f i) (range_with_len 0 images) ≡ reserves count images members prefix = total_sum (λ i. if stands i prefix then 0 else f i) (range_with_len 0 images) in
    omega arith

-- a prefix counts no more than the whole list, and with the reserves no less
pub prefix_less : (count : ℕ → ℕ → ℕ) (prefix later : List (Option ℕ)) → counted_in count prefix ≤ placed ◌+◌ count 0 (prefix ++ later)
prefix_less count prefix later =
    let a = counted_placed count prefix in
    let b = placed_append count 0 prefix later in
    omega arith

pub prefix_more : (count : ℕ → ℕ → ℕ) (images members : ℕ) (prefix later : List (Option ℕ)) → length (prefix ++ later) ≤ members → AllImages images (prefix ++ later) →
    is_distinct (prefix ++ later) ≡ true → placed ◌+◌ count 0 (prefix ++ later) ≤ counted_in count prefix + reserves count images members prefix
prefix_more count images members prefix later within all apart =
    let a = counted_placed count prefix in
    let b = placed_append count 0 prefix later in
    let e : 0 + length prefix ≡ length prefix = omega arith in
    let f : placed ◌+◌ count (0 + length prefix) later ≡ placed ◌+◌ count (length prefix) later = ap (λ (s : ℕ). placed ◌+◌ count s later) e in
    let h = later_within count images members prefix later within all apart in
    omega arith

-- a whole list has no reserves
pub most_none : (count : ℕ → ℕ → ℕ) (members from image : ℕ) → members ≤ from → most_from count members from image ≡ 0
unfolding most_from
most_none count members from image le =
    let e : members - from ≡ 0 = omega arith in
    ap (λ (n : ℕ). fold max 0 (map (λ s. count s image) (range_with_len from n))) e

total_zero : (f : ℕ → ℕ) (a n : ℕ) → ((i : ℕ) → f i ≡ 0) → total ◌+◌ f (range_with_len a n) ≡ 0
unfolding total
total_zero f a zero none = refl
total_zero f a (suc n) none = let h = none a in let k = total_zero f (a + 1) n none in omega arith

either_none : (b : Bool) (m : ℕ) → m ≡ 0 → cond b 0 m ≡ 0
either_none true m e = refl
either_none false m e = e

pub whole_reserves : (count : ℕ → ℕ → ℕ) (images members : ℕ) (slots : List (Option ℕ)) → length slots ≡ members → reserves count images members slots ≡ 0
whole_reserves count images members slots long =
    sym (total_sum (λ i. if stands i slots then 0 else most_from count members (length slots) i) (range_with_len 0 images))
    ∙ total_zero (λ i. if stands i slots then 0 else most_from count members (length slots) i) 0 images
    (λ i. either_none (stands i slots) (most_from count members (length slots) i) (most_none count members (length slots) i (omega arith)))
