-- What a walk keeps of its prefix.
use Rattle.std.proofs.Common.{ℕ, ◌≡◌, ◌<◌, ◌≤◌, ◌+◌, ◌-◌, ◌*◌, ◌/◌, ◌%◌, ◌^◌, List, [], ◌∷◌, ◌++◌, refl, sym, ap, ◌∙◌, arith, min, Bool, true, false, ◌&&◌, ◌||◌, ◌==◌, ◌≢◌, not, cond, rules, Option, Some, None, subst, inl, inr, w32}
use Rattle.std.specs.Int.{bit_at, bit_not, trailing_zeros}
use Rattle.std.specs.Int.RustNames.{bit_or}
use lib.Bits.{bit_and}
use mir.Val.{bits}
use Rattle.std.proofs.lemmas.Bool.{cases_eq, eq-eqb, ne_eqb}
use Rattle.std.proofs.lemmas.Nat.Bits.{bit_at-zero, bit_at_ones, bit_at-trailing_zeros, bit_at_set_same, bit_at_set_other, bit_at_clear_same, bit_at_clear_other}
use Rattle.std.proofs.Math.Nat.{div-div-eq-div-mul, div-le_self}
use Rattle.std.proofs.lemmas.Nat.{pow-add}
use Rattle.raid_params.specs.Slots.{is_distinct, stands, empties}
use Rattle.slot_math.specs.Ways.{AllImages}
use Rattle.slot_math.proofs.Fronts.{distinct_more, empties_more}
use Rattle.candidate_enum.specs.Kept.{IsKept}

-- what stands in a prefix with one place more
stands_more : (p : List (Option ℕ)) (k i : ℕ) → stands k (p ++ Some i ∷ []) ≡ (stands k p || (k == i))
unfolding stands
stands_more [] k i = elim (k == i) as (λ b. (b || false) ≡ b) [ true ↦ refl | false ↦ refl ]
stands_more (None ∷ p) k i = stands_more p k i
stands_more (Some j ∷ p) k i = ap (λ (b : Bool). (k == j) || b) (stands_more p k i) ∙ either (k == j) (stands k p) (k == i)
  where
    either : (a b c : Bool) → (a || (b || c)) ≡ ((a || b) || c)
    either true b c = refl
    either false b c = refl

stands_more_empty : (p : List (Option ℕ)) (k : ℕ) → stands k (p ++ None ∷ []) ≡ stands k p
unfolding stands
stands_more_empty [] k = refl
stands_more_empty (None ∷ p) k = stands_more_empty p k
stands_more_empty (Some j ∷ p) k = ap (λ (b : Bool). (k == j) || b) (stands_more_empty p k)

empties_one_more : (p : List (Option ℕ)) → empties (p ++ None ∷ []) ≡ empties p + 1
unfolding empties
empties_one_more [] = refl
empties_one_more (None ∷ p) = let h : empties (p ++ None ∷ []) ≡ empties p + 1 = empties_one_more p in omega arith
empties_one_more (Some k ∷ p) = empties_one_more p

nothing_stands : (i : ℕ) → stands i [] ≡ false
unfolding stands
nothing_stands i = refl

no_empties : empties [] ≡ 0
unfolding empties
no_empties = refl

-- the bit of an image
abbrev bit_of : List (Option ℕ) → ℕ → ℕ
bit_of p i = cond (stands i p) 0 1

same_more : (p : List (Option ℕ)) (i : ℕ) → bit_of (p ++ Some i ∷ []) i ≡ 0
same_more p i = ap (λ (b : Bool). cond b 0 1) (stands_more p i i ∙ ap (λ (b : Bool). stands i p || b) (eq-eqb i i refl) ∙ whole (stands i p))
  where
    whole : (b : Bool) → (b || true) ≡ true
    whole true = refl
    whole false = refl

other_more : (p : List (Option ℕ)) (i k : ℕ) → i ≢ k → bit_of (p ++ Some k ∷ []) i ≡ bit_of p i
other_more p i k n = ap (λ (b : Bool). cond b 0 1) (stands_more p i k ∙ ap (λ (b : Bool). stands i p || b) (ne_eqb i k n) ∙ part (stands i p))
  where
    part : (b : Bool) → (b || false) ≡ b
    part true = refl
    part false = refl

-- the empty prefix
pub kept_first : (p : List (Option ℕ)) → p ≡ [] → IsKept p 4294967295 0
kept_first p e =
    let P : List (Option ℕ) → Type 0 = λ t. IsKept t 4294967295 0 in
    subst P (sym e) (record {
      images = λ i lt. bit_at_ones 32 i lt ∙ sym (ap (λ (b : Bool). cond b 0 1) (nothing_stands i));
      places = sym no_empties;
    })

-- an image more
pub kept_image : (p new : List (Option ℕ)) (free empty image : ℕ) → IsKept p free empty → image < 32 → new ≡ p ++ Some image ∷ [] →
    IsKept new (bit_and free (bit_not w32 (1 * 2 ^ image % 2 ^ bits w32))) empty
kept_image p new free empty image h lt e =
    let P : List (Option ℕ) → Type 0 = λ t. IsKept t (bit_and free (bit_not w32 (1 * 2 ^ image % 2 ^ bits w32))) empty in
    subst P (sym e) (record {
      images = λ i low. elim (cases_eq i image) [
        | inl same ↦ ap (bit_at (bit_and free (bit_not w32 (1 * 2 ^ image % 2 ^ bits w32)))) same ∙ bit_at_clear_same w32 free image lt ∙ sym (same_more p image)
            ∙ ap (bit_of (p ++ Some image ∷ [])) (sym same)
        | inr apart ↦ bit_at_clear_other w32 free image lt i low apart ∙ h.images i low ∙ sym (other_more p i image apart)
      ];
      places = h.places ∙ sym (empties_more p image);
    })

-- an empty place more
pub kept_empty : (p new : List (Option ℕ)) (free empty : ℕ) → IsKept p free empty → new ≡ p ++ None ∷ [] → IsKept new free (empty + 1)
kept_empty p new free empty h e =
    let P : List (Option ℕ) → Type 0 = λ t. IsKept t free (empty + 1) in
    subst P (sym e) (record {
      images = λ i low. h.images i low ∙ sym (ap (λ (b : Bool). cond b 0 1) (stands_more_empty p i));
      places = ap (λ (n : ℕ). n + 1) h.places ∙ sym (empties_one_more p);
    })

-- an image less
pub kept_without_image : (p old : List (Option ℕ)) (free empty image : ℕ) → IsKept old free empty → image < 32 → is_distinct old ≡ true → old ≡ p ++ Some image ∷ [] →
    IsKept p (bit_or free (1 * 2 ^ image % 2 ^ bits w32)) empty
kept_without_image p old free empty image g lt distinct e =
    let P : List (Option ℕ) → Type 0 = λ t. IsKept t free empty in
    let h = subst P e g in
    let new : stands image p ≡ false = unstood (is_distinct p) (stands image p) (sym (distinct_more p image) ∙ ap is_distinct (sym e) ∙ distinct) in
    record {
      images = λ i low. elim (cases_eq i image) [
        | inl same ↦ ap (bit_at (bit_or free (1 * 2 ^ image % 2 ^ bits w32))) same ∙ bit_at_set_same w32 free image lt
            ∙ sym (ap (λ (b : Bool). cond b 0 1) new) ∙ ap (bit_of p) (sym same)
        | inr apart ↦ bit_at_set_other w32 free image lt i apart ∙ h.images i low ∙ other_more p i image apart
      ];
      places = h.places ∙ empties_more p image;
    }
  where
    unstood : (a b : Bool) → (a && not b) ≡ true → b ≡ false
    unstood a false h = refl
    unstood true true h = absurd (search rules)
    unstood false true h = absurd (search rules)

-- an empty place less
pub some_empty : (p old : List (Option ℕ)) (free empty : ℕ) → IsKept old free empty → old ≡ p ++ None ∷ [] → empty ≡ empties p + 1
some_empty p old free empty g e = g.places ∙ ap empties e ∙ empties_one_more p

pub kept_without_empty : (p old : List (Option ℕ)) (free empty : ℕ) → IsKept old free empty → old ≡ p ++ None ∷ [] → IsKept p free (empty - 1)
kept_without_empty p old free empty g e =
    let P : List (Option ℕ) → Type 0 = λ t. IsKept t free empty in
    let h = subst P e g in
    let n : empty ≡ empties p + 1 = some_empty p old free empty g e in
    record {
      images = λ i low. h.images i low ∙ ap (λ (b : Bool). cond b 0 1) (stands_more_empty p i);
      places = omega arith;
    }

-- the bits from a place on
bit_shifted : (n k i : ℕ) → bit_at (n / 2 ^ k) i ≡ bit_at n (k + i)
bit_shifted n k i = ap (λ (m : ℕ). m % 2) (div-div-eq-div-mul n (2 ^ k) (2 ^ i) ∙ ap (λ (m : ℕ). n / m) (sym (pow-add 2 k i)))

pub none_from : (free first i : ℕ) → free / 2 ^ first ≡ 0 → first ≤ i → bit_at free i ≡ 0
none_from free first i e le =
    ap (bit_at free) (let s : i ≡ first + (i - first) = omega arith in s) ∙ sym (bit_shifted free first (i - first))
    ∙ ap (λ (m : ℕ). bit_at m (i - first)) e ∙ bit_at-zero (i - first)

-- the least bit from a place on that is set
pub record IsLowest (free first at : ℕ) : Type 0 where
  pub low : first ≤ at
  pub set : bit_at free at ≡ 1
  pub others : (i : ℕ) → first ≤ i → i < at → bit_at free i ≡ 0

pub lowest_from : (free first : ℕ) → 0 < free / 2 ^ first → free / 2 ^ first < 2 ^ bits w32 → IsLowest free first (first + trailing_zeros w32 (free / 2 ^ first))
lowest_from free first some fits =
    let lowest = bit_at-trailing_zeros w32 (free / 2 ^ first) some fits in
    record {
      low = omega arith;
      set = sym (bit_shifted free first (trailing_zeros w32 (free / 2 ^ first))) ∙ lowest.1;
      others = λ i le lt.
          ap (bit_at free) (let s : i ≡ first + (i - first) = omega arith in s) ∙ sym (bit_shifted free first (i - first))
          ∙ lowest.2 (i - first) (omega arith);
    }

-- an image whose bit is set is not in the prefix, and one whose bit is not set is
pub free_image : (p : List (Option ℕ)) (free empty i : ℕ) → IsKept p free empty → i < 32 → bit_at free i ≡ 1 → stands i p ≡ false
free_image p free empty i h lt e = here (stands i p) (sym (h.images i lt) ∙ e)
  where
    here : (b : Bool) → (let n : ℕ = cond b 0 1 in n ≡ 1) → b ≡ false
    here false h = refl
    here true h = absurd (omega arith)

pub taken_image : (p : List (Option ℕ)) (free empty i : ℕ) → IsKept p free empty → i < 32 → bit_at free i ≡ 0 → stands i p ≡ true
taken_image p free empty i h lt e = here (stands i p) (sym (h.images i lt) ∙ e)
  where
    here : (b : Bool) → (let n : ℕ = cond b 0 1 in n ≡ 0) → b ≡ true
    here true h = refl
    here false h = absurd (omega arith)

-- fewer images are below more
pub more_images : (n m : ℕ) (p : List (Option ℕ)) → n ≤ m → AllImages n p → AllImages m p
more_images n m [] le a = tt
more_images n m (None ∷ p) le a = more_images n m p le a
more_images n m (Some i ∷ p) le a = (let h : i < n = a.0 in omega arith, more_images n m p le a.1)

-- the least image that is free, where there is one
pub record IsNext (free first images at : ℕ) : Type 0 where
  pub set : at < images → bit_at free at ≡ 1
  pub others : (i : ℕ) → first ≤ i → i < at → bit_at free i ≡ 0

pub next_bit : (free first images at : ℕ) → 0 < free / 2 ^ first → free < 2 ^ 32 → at ≡ min (first + trailing_zeros w32 (free / 2 ^ first)) images → IsNext free first images at
next_bit free first images at some fits e =
    let small : free / 2 ^ first ≤ free = div-le_self free (2 ^ first) in
    let l = lowest_from free first some (let lt : free / 2 ^ first < 2 ^ 32 = omega arith in lt) in
    record {
      set = λ lt. ap (bit_at free) (let same : at ≡ first + trailing_zeros w32 (free / 2 ^ first) = omega arith in same) ∙ l.set;
      others = λ i lo hi. l.others i lo (omega arith);
    }
