-- Where as many images stand in different places as there are, each stands, and on one place.
use Rattle.std.proofs.Common.{◌≡◌, ℕ, zero, suc, ◌+◌, ◌<◌, ◌≤◌, List, [], ◌∷◌, length, cond, arith, ap, sym, refl, ◌∙◌, Bool, true, false, not, ◌==◌, ◌||◌, Option, Some, None, inl, inr}
use Rattle.std.proofs.lemmas.Bool.{and_parts, cases_eq, eq-eqb, not-true}
use Rattle.std.specs.List.{range_with_len, slice_index_or}
use Rattle.raid_params.specs.Slots.{empties, is_distinct, stands}
use Rattle.slot_math.specs.Ways.{AllImages}
use Rattle.slot_math.proofs.Placed.{by_image, placed, plus_is, total, where_it_stands}

pub one_each : (slot : ℕ) (places : List (Option ℕ)) → placed ◌+◌ (λ s i. 1) slot places + empties places ≡ length places
unfolding placed empties
one_each slot [] = refl
one_each slot (None ∷ places) = let h = one_each (slot + 1) places in omega arith
one_each slot (Some i ∷ places) = let h = one_each (slot + 1) places in omega arith

few_stand : (places : List (Option ℕ)) (a n : ℕ) → total ◌+◌ (where_it_stands places (λ i. 1)) (range_with_len a n) ≤ n
unfolding total
few_stand places a zero = omega arith
few_stand places a (suc n) = let h = few_stand places (a + 1) n in let k = at_most (stands a places) in omega arith
  where
    at_most : (b : Bool) → cond b 1 0 ≤ 1
    at_most true = omega arith
    at_most false = omega arith

some_flag : (b : Bool) → 1 ≤ cond b 1 0 → b ≡ true
some_flag true h = refl
some_flag false h = absurd (omega arith)

flag_few : (b : Bool) → cond b 1 0 ≤ 1
flag_few true = omega arith
flag_few false = omega arith

all_stand : (places : List (Option ℕ)) (a n i : ℕ) → total ◌+◌ (where_it_stands places (λ k. 1)) (range_with_len a n) ≡ n → a ≤ i → i < a + n → stands i places ≡ true
unfolding total
all_stand places a zero i full le lt = absurd (omega arith)
all_stand places a (suc n) i full le lt =
    let rest = few_stand places (a + 1) n in
    let here = flag_few (stands a places) in
    elim (cases_eq a i) [
      | inl e ↦ ap (λ (k : ℕ). stands k places) (sym e) ∙ some_flag (stands a places) (omega arith)
      | inr ne ↦ all_stand places (a + 1) n i (omega arith) (omega arith) (omega arith)
    ]

pub each_stands : (n i : ℕ) (places : List (Option ℕ)) → length places ≡ n → empties places ≡ 0 → AllImages n places → is_distinct places ≡ true → i < n → stands i places ≡ true
each_stands n i places long filled all apart lt =
    let a = one_each 0 places in
    let b = by_image ◌+◌ (λ k. 1) n 0 places plus_is all apart in
    all_stand places 0 n i (omega arith) (omega arith) (omega arith)

-- what a place holds stands in the list
pub held_stands : (places : List (Option ℕ)) (k i : ℕ) → slice_index_or places k None ≡ Some i → stands i places ≡ true
unfolding stands
held_stands [] k i e = (cc)
held_stands (None ∷ places) zero i e = (cc)
held_stands (Some j ∷ places) zero i e =
    let same : i ≡ j = (cc) in
    ap (λ (b : Bool). b || stands i places) (eq-eqb i j same)
held_stands (None ∷ places) (suc k) i e = held_stands places k i e
held_stands (Some j ∷ places) (suc k) i e = either (i == j) (stands i places) (held_stands places k i e)
  where
    either : (a b : Bool) → b ≡ true → (a || b) ≡ true
    either true b e = refl
    either false b e = e

-- one image is held by one place
pub held_once : (places : List (Option ℕ)) (a b i : ℕ) → is_distinct places ≡ true → slice_index_or places a None ≡ Some i → slice_index_or places b None ≡ Some i → a ≡ b
unfolding is_distinct
held_once [] a b i apart e f = (cc)
held_once (None ∷ places) zero b i apart e f = (cc)
held_once (None ∷ places) (suc a) zero i apart e f = (cc)
held_once (None ∷ places) (suc a) (suc b) i apart e f = ap (λ (k : ℕ). suc k) (held_once places a b i apart e f)
held_once (Some j ∷ places) zero zero i apart e f = refl
held_once (Some j ∷ places) zero (suc b) i apart e f =
    let same : j ≡ i = (cc) in
    let off : stands j places ≡ false = not-true (stands j places) (and_parts (not (stands j places)) (is_distinct places) apart).0 in
    let on : stands i places ≡ true = held_stands places b i f in
    let bad : true ≡ false = sym on ∙ ap (λ (k : ℕ). stands k places) (sym same) ∙ off in
    (cc)
held_once (Some j ∷ places) (suc a) zero i apart e f =
    let same : j ≡ i = (cc) in
    let off : stands j places ≡ false = not-true (stands j places) (and_parts (not (stands j places)) (is_distinct places) apart).0 in
    let on : stands i places ≡ true = held_stands places a i e in
    let bad : true ≡ false = sym on ∙ ap (λ (k : ℕ). stands k places) (sym same) ∙ off in
    (cc)
held_once (Some j ∷ places) (suc a) (suc b) i apart e f =
    ap (λ (k : ℕ). suc k) (held_once places a b i (and_parts (not (stands j places)) (is_distinct places) apart).1 e f)
