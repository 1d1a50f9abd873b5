-- Numbers put into their places in a rising list.
use Rattle.std.proofs.Common.{◌≡◌, ℕ, zero, suc, ◌+◌, ◌^◌, ◌<◌, ◌≤◌, inl, inr, List, [], ◌∷◌, ◌++◌, true, false, eqb, ltb, length, fold, take, drop, get_or, refl, sym, ap, ◌∙◌, arith, All}
use Rattle.std.specs.List.{insert, AllPairs}
use Rattle.std.proofs.lemmas.Bool.{cases_lt}
use Rattle.std.proofs.lemmas.Bool.Decides.{nat_tests}
use Rattle.std.proofs.lemmas.List.{length-append, length-drop, length-take, take_all, take_at, take-take}
use Rattle.std.proofs.lemmas.List.Elements.{All-cons, All-head, All-nil, All-tail, All-take, All-weaker}
use Rattle.std.proofs.lemmas.List.Kept.{AllPairs-from_increasing}
use Rattle.std.proofs.lemmas.List.Sums.{fold-append}
use Rattle.std.specs.List.Sorted.{IsStrictlyIncreasing}
use Rattle.landmark_rules.specs.declared.limits.TheConstants.{MOST_ORIGINS}
use Rattle.survey_engine.specs.Kept.{with_number}
use Rattle.survey_engine.specs.Origins.{with_numbers, AreOrigins}

-- into the empty list
with_empty : (n : ℕ) → with_number [] n ≡ n ∷ []
unfolding with_number
with_empty n = refl

-- before a greater number
with_before : (m n : ℕ) (rest : List ℕ) → n < m → with_number (m ∷ rest) n ≡ n ∷ m ∷ rest
unfolding with_number
with_before m n rest less = let t : ltb n m ≡ true = grind (arith, nat_tests) in rw t refl

-- at the same
with_same : (m n : ℕ) (rest : List ℕ) → n ≡ m → with_number (m ∷ rest) n ≡ m ∷ rest
unfolding with_number
with_same m n rest same = let t : ltb n m ≡ false = grind (arith, nat_tests) in let u : eqb n m ≡ true = grind (arith, nat_tests) in rw (t, u) refl

-- after a smaller one
with_after : (m n : ℕ) (rest : List ℕ) → m < n → with_number (m ∷ rest) n ≡ m ∷ with_number rest n
unfolding with_number
with_after m n rest more = let t : ltb n m ≡ false = grind (arith, nat_tests) in let u : eqb n m ≡ false = grind (arith, nat_tests) in rw (t, u) refl

-- the number is put at the place of the first that is greater
pub at_place : (xs : List ℕ) (n p : ℕ) → p ≤ length xs → ((k : ℕ) → k < p → get_or xs k 0 < n) → (p < length xs → n < get_or xs p 0) → with_number xs n ≡ insert xs p n
unfolding with_number
at_place [] n zero within before here = refl
at_place [] n (suc p) within before here = absurd (omega arith)
at_place (m ∷ xs) n zero within before here = with_before m n xs (here (omega arith))
at_place (m ∷ xs) n (suc p) within before here =
    with_after m n xs (before 0 (omega arith)) ∙ ap (λ (l : List ℕ). m ∷ l) (at_place xs n p (omega arith) (λ k below. before (suc k) (omega arith)) (λ below. here (omega arith)))

-- a number that the list has already changes nothing
pub found_at_place : (xs : List ℕ) (n p : ℕ) → p < length xs → ((k : ℕ) → k < p → get_or xs k 0 < n) → get_or xs p 0 ≡ n → with_number xs n ≡ xs
found_at_place [] n p within before here = absurd (omega arith)
found_at_place (m ∷ xs) n zero within before here = with_same m n xs (sym here)
found_at_place (m ∷ xs) n (suc p) within before here =
    with_after m n xs (before 0 (omega arith)) ∙ ap (λ (l : List ℕ). m ∷ l) (found_at_place xs n p (omega arith) (λ k below. before (suc k) (omega arith)) here)

-- ---- the first of them are kept

-- the first elements after an insert
take_insert : (xs : List ℕ) (n p k : ℕ) → p ≤ length xs → p ≤ k → take (suc k) (insert xs p n) ≡ insert (take k xs) p n
take_insert xs n zero k within le = refl
take_insert [] n (suc p) k within le = absurd (omega arith)
take_insert (x ∷ xs) n (suc p) zero within le = absurd (omega arith)
take_insert (x ∷ xs) n (suc p) (suc k) within le = ap (λ (l : List ℕ). x ∷ l) (take_insert xs n p k (omega arith) (omega arith))

pub all_taken : (most : ℕ) (xs : List ℕ) → length xs ≤ most → take most xs ≡ xs
all_taken most xs fits = take_all most xs fits

pub past_all : (xs : List ℕ) (n p most : ℕ) → length xs ≡ most → most ≤ p → take most (insert xs p n) ≡ xs
past_all xs n p most full past =
    ap (λ (l : List ℕ). take most (l ++ n ∷ drop p xs)) (take_all p xs (omega arith)) ∙ take_at xs (n ∷ drop p xs) most full

pub put_in_full : (xs : List ℕ) (n p less most : ℕ) → length xs ≡ most → most ≡ less + 1 → p ≤ less → take most (insert xs p n) ≡ insert (take less xs) p n
put_in_full xs n p less most full next within =
    let at : most ≡ suc less = omega arith in
    ap (λ (m : ℕ). take m (insert xs p n)) at ∙ take_insert xs n p less (omega arith) within

pub put_in : (xs : List ℕ) (n p most : ℕ) → length xs < most → take most (insert xs p n) ≡ insert xs p n
put_in xs n p most room =
    take_all most (insert xs p n) (omega (arith, length-append (take p xs) (n ∷ drop p xs), length-take p xs, length-drop p xs))

-- ---- one after the other

-- numbers past the first do not come back
with_first : (k : ℕ) (xs : List ℕ) (n : ℕ) → take k (with_number (take k xs) n) ≡ take k (with_number xs n)
with_first zero xs n = refl
with_first (suc k) [] n = refl
with_first (suc k) (m ∷ xs) n =
    elim (cases_lt n m) [
      | inl less ↦ ap (take (suc k)) (with_before m n (take k xs) less) ∙ ap (λ (l : List ℕ). n ∷ l) (first_again k m xs) ∙ sym (ap (take (suc k)) (with_before m n xs less))
      | inr other ↦ elim (cases_lt m n) [
        | inl more ↦ ap (take (suc k)) (with_after m n (take k xs) more) ∙ ap (λ (l : List ℕ). m ∷ l) (with_first k xs n) ∙ sym (ap (take (suc k)) (with_after m n xs more))
        | inr same ↦ (let e : n ≡ m = omega arith in ap (take (suc k)) (with_same m n (take k xs) e) ∙ ap (λ (l : List ℕ). m ∷ l) (take-take k k xs (omega arith)) ∙ sym (ap (take (suc k)) (with_same m n xs e)))
      ]
    ]
  where
    first_again : (k m : ℕ) (xs : List ℕ) → take k (m ∷ take k xs) ≡ take k (m ∷ xs)
    first_again zero m xs = refl
    first_again (suc k) m xs = ap (λ (l : List ℕ). m ∷ l) (take-take k (suc k) xs (omega arith))

with_all : (k : ℕ) (numbers xs : List ℕ) → take k (fold with_number (take k xs) numbers) ≡ take k (fold with_number xs numbers)
with_all k [] xs = take-take k k xs (omega arith)
with_all k (n ∷ numbers) xs =
    sym (with_all k numbers (with_number (take k xs) n)) ∙ ap (λ (l : List ℕ). take k (fold with_number l numbers)) (with_first k xs n) ∙ with_all k numbers (with_number xs n)

-- more numbers after some
pub with_more : (old some more : List ℕ) → with_numbers (with_numbers old some) more ≡ with_numbers old (some ++ more)
with_more old some more = with_all MOST_ORIGINS more (fold with_number old some) ∙ ap (take MOST_ORIGINS) (sym (fold-append with_number old some more))

pub with_none : (old : List ℕ) → length old ≤ MOST_ORIGINS → with_numbers old [] ≡ old
with_none old few = take_all MOST_ORIGINS old few

-- ---- they still rise

with_each : (P : ℕ → Type 0) (xs : List ℕ) (n : ℕ) → P n → All P xs → All P (with_number xs n)
with_each P [] n here all = rw (with_empty n) (All-cons P n [] here all)
with_each P (m ∷ xs) n here all =
    elim (cases_lt n m) [
      | inl less ↦ rw (with_before m n xs less) (All-cons P n (m ∷ xs) here all)
      | inr other ↦ elim (cases_lt m n) [
        | inl more ↦ rw (with_after m n xs more) (All-cons P m (with_number xs n) (All-head P m xs all) (with_each P xs n here (All-tail P m xs all)))
        | inr same ↦ (let e : n ≡ m = omega arith in rw (with_same m n xs e) all)
      ]
    ]

unfoldable pub Rises : List ℕ → Type 0
Rises [] = Unit {0}
Rises (x ∷ xs) = All (λ y. x < y) xs × Rises xs

with_rises : (xs : List ℕ) (n : ℕ) → Rises xs → Rises (with_number xs n)
unfolding Rises
with_rises [] n rises = rw (with_empty n) (All-nil (λ y. n < y), tt)
with_rises (m ∷ xs) n rises =
    elim (cases_lt n m) [
      | inl less ↦ rw (with_before m n xs less) (All-cons (λ y. n < y) m xs less (All-weaker (λ y. m < y) (λ y. n < y) (λ y h. omega (arith, h)) xs rises.0), rises)
      | inr other ↦ elim (cases_lt m n) [
        | inl more ↦ rw (with_after m n xs more) (with_each (λ y. m < y) xs n more rises.0, with_rises xs n rises.1)
        | inr same ↦ (let e : n ≡ m = omega arith in rw (with_same m n xs e) rises)
      ]
    ]

take_rises : (k : ℕ) (xs : List ℕ) → Rises xs → Rises (take k xs)
unfolding Rises
take_rises zero xs rises = tt
take_rises (suc k) [] rises = tt
take_rises (suc k) (x ∷ xs) rises = (All-take (λ y. x < y) k xs rises.0, take_rises k xs rises.1)

rises_from : (xs : List ℕ) → AllPairs (λ x y. x < y) xs → Rises xs
unfolding Rises
rises_from [] pairs = tt
rises_from (x ∷ xs) pairs = ((λ k d h. pairs 0 (suc k) d (omega arith) (omega arith)), rises_from xs (λ i j d less h. pairs (suc i) (suc j) d (omega arith) (omega arith)))

pub rising_from : (xs : List ℕ) → Rises xs → IsStrictlyIncreasing xs
unfolding Rises
rising_from [] rises k h = absurd (omega arith)
rising_from (x ∷ []) rises k h = absurd (omega arith)
rising_from (x ∷ y ∷ xs) rises zero h = All-head (λ z. x < z) y xs rises.0
rising_from (x ∷ y ∷ xs) rises (suc k) h = let at : suc k + 1 ≡ suc (k + 1) = omega arith in rw at (rising_from (y ∷ xs) rises.1 k (omega arith))

some_left : (xs : List ℕ) (n most : ℕ) → 1 ≤ most → 1 ≤ length (take most (with_number xs n))
some_left xs n zero le = absurd (omega arith)
some_left [] n (suc most) le = rw (with_empty n) (omega arith)
some_left (m ∷ xs) n (suc most) le =
    elim (cases_lt n m) [
      | inl less ↦ rw (with_before m n xs less) (omega arith)
      | inr other ↦ elim (cases_lt m n) [
        | inl more ↦ rw (with_after m n xs more) (omega arith)
        | inr same ↦ (let e : n ≡ m = omega arith in rw (with_same m n xs e) (omega arith))
      ]
    ]

-- so they are origins still
pub origins_with : (xs ys : List ℕ) (n : ℕ) → AreOrigins xs → n < 2 ^ 55 → ys ≡ take MOST_ORIGINS (with_number xs n) → AreOrigins ys
origins_with xs ys n are near is = rw is (record {
  rising = record {
    some = some_left xs n MOST_ORIGINS (omega arith);
    rising = rising_from (take MOST_ORIGINS (with_number xs n)) (take_rises MOST_ORIGINS (with_number xs n) (with_rises xs n (rises_from xs (AllPairs-from_increasing xs are.rising.rising))));
  };
  few = omega (arith, length-take MOST_ORIGINS (with_number xs n));
  near = All-take (λ m. m < 2 ^ 55) MOST_ORIGINS (with_number xs n) (with_each (λ m. m < 2 ^ 55) xs n near are.near);
})
