-- Numbers that were sorted are those in rising order.
use Rattle.std.proofs.Common.{◌≡◌, ℕ, suc, ◌+◌, ◌≤◌, ◌<◌, ◌==◌, inl, inr, Bool, true, false, cond, nat_le, List, [], ◌∷◌, length, get_or, refl, sym, ap, ap₂, ◌∙◌, arith}
use Rattle.std.specs.List.{AllByRecursion, sum_by}
use Rattle.std.specs.List.Sorted.{IsPermutation, IsSorted}
use Rattle.std.specs.Ordering.{nat_cmp}
use Rattle.std.proofs.lemmas.Bool.{cases_lt}
use Rattle.std.proofs.lemmas.Bool.Decides.{nat_tests}
use Rattle.std.proofs.lemmas.List.Sums.{sum_by-cons}
use Rattle.std.proofs.lemmas.List.Sorted.{IsNonDecreasingBy-from_sort, sum_by-IsPermutation}
use Rattle.relation_lines.specs.Shared.{ordered, placed}

abbrev one : ℕ → ℕ → ℕ
one v x = cond (x == v) 1 0

-- how often a number stands in a list
abbrev tally : ℕ → List ℕ → ℕ
tally v [] = 0
tally v (x ∷ xs) = one v x + tally v xs

tally_sum : (v : ℕ) (xs : List ℕ) → tally v xs ≡ sum_by (one v) xs
tally_sum v [] = refl
tally_sum v (x ∷ xs) = ap (λ (k : ℕ). one v x + k) (tally_sum v xs) ∙ sym (sum_by-cons (one v) x xs)

placed_cases : (v n m : ℕ) (ms : List ℕ) (b : Bool) → tally v (placed n ms) ≡ tally v (n ∷ ms) → tally v (cond b (n ∷ m ∷ ms) (m ∷ placed n ms)) ≡ tally v (n ∷ m ∷ ms)
placed_cases v n m ms true e = refl
placed_cases v n m ms false e = omega (arith, e)

tally_placed : (v n : ℕ) (ms : List ℕ) → tally v (placed n ms) ≡ tally v (n ∷ ms)
tally_placed v n [] = refl
tally_placed v n (m ∷ ms) = placed_cases v n m ms (nat_le n m) (tally_placed v n ms)

tally_ordered : (v : ℕ) (xs : List ℕ) → tally v (ordered xs) ≡ tally v xs
tally_ordered v [] = refl
tally_ordered v (x ∷ xs) = tally_placed v x (ordered xs) ∙ ap (λ (k : ℕ). one v x + k) (tally_ordered v xs)

-- each number is at most those after it
abbrev Rises : List ℕ → Type 0
Rises [] = Unit {0}
Rises (x ∷ xs) = AllByRecursion (λ y. x ≤ y) xs × Rises xs

above_placed : (x n : ℕ) (ms : List ℕ) (b : Bool) (m : ℕ) → x ≤ n → x ≤ m → AllByRecursion (λ y. x ≤ y) ms → AllByRecursion (λ y. x ≤ y) (placed n ms) → AllByRecursion (λ y. x ≤ y) (cond b (n ∷ m ∷ ms) (m ∷ placed n ms))
above_placed x n ms true m low least above placed = (low, (least, above))
above_placed x n ms false m low least above placed = (least, placed)

all_above : (x n : ℕ) (ms : List ℕ) → x ≤ n → AllByRecursion (λ y. x ≤ y) ms → AllByRecursion (λ y. x ≤ y) (placed n ms)
all_above x n [] low above = (low, tt)
all_above x n (m ∷ ms) low above = above_placed x n ms (nat_le n m) m low above.0 above.1 (all_above x n ms low above.1)

lower : (n m : ℕ) (ms : List ℕ) → n ≤ m → AllByRecursion (λ y. m ≤ y) ms → AllByRecursion (λ y. n ≤ y) ms
lower n m [] low above = tt
lower n m (k ∷ ms) low above = let h = above.0 in (omega arith, lower n m ms low above.1)

rises_cases : (n m : ℕ) (ms : List ℕ) (b : Bool) → nat_le n m ≡ b → Rises (m ∷ ms) → Rises (placed n ms) → Rises (cond b (n ∷ m ∷ ms) (m ∷ placed n ms))
rises_cases n m ms true is rises rest = let low : n ≤ m = grind (arith, nat_tests) in ((low, lower n m ms low rises.0), rises)
rises_cases n m ms false is rises rest = let low : m ≤ n = grind (arith, nat_tests) in (all_above m n ms low rises.0, rest)

rises_placed : (n : ℕ) (ms : List ℕ) → Rises ms → Rises (placed n ms)
rises_placed n [] rises = (tt, tt)
rises_placed n (m ∷ ms) rises = rises_cases n m ms (nat_le n m) refl rises (rises_placed n ms rises.1)

rises_ordered : (xs : List ℕ) → Rises (ordered xs)
rises_ordered [] = tt
rises_ordered (x ∷ xs) = rises_placed x (ordered xs) (rises_ordered xs)

self : (x : ℕ) → one x x ≡ 1
self x = let e : (x == x) ≡ true = grind (arith, nat_tests) in ap (λ (b : Bool). cond b 1 0) e

other : (v x : ℕ) → v < x → one v x ≡ 0
other v x lt = let e : (x == v) ≡ false = grind (arith, nat_tests) in ap (λ (b : Bool). cond b 1 0) e

-- what is below all of a list does not stand in it
absent : (v y : ℕ) (ys : List ℕ) → v < y → AllByRecursion (λ k. y ≤ k) ys → tally v ys ≡ 0
absent v y [] lt above = refl
absent v y (k ∷ ys) lt above = let h = above.0 in let none = other v k (omega arith) in let rest : tally v ys ≡ 0 = absent v y ys lt above.1 in omega (arith, none, rest)

smaller : (x y : ℕ) (xs ys : List ℕ) → AllByRecursion (λ k. y ≤ k) ys → ((v : ℕ) → tally v (x ∷ xs) ≡ tally v (y ∷ ys)) → x < y → ⊥
smaller x y xs ys above same lt =
    let here : one x x + tally x xs ≡ one x y + tally x ys = same x in
    let none : tally x ys ≡ 0 = absent x y ys lt above in
    absurd (omega (arith, here, self x, other x y lt, none))

same_rising : (xs ys : List ℕ) → Rises xs → Rises ys → ((v : ℕ) → tally v xs ≡ tally v ys) → xs ≡ ys
same_rising [] [] p q same = refl
same_rising [] (y ∷ ys) p q same = let here : 0 ≡ one y y + tally y ys = same y in absurd (omega (arith, here, self y))
same_rising (x ∷ xs) [] p q same = let here : one x x + tally x xs ≡ 0 = same x in absurd (omega (arith, here, self x))
same_rising (x ∷ xs) (y ∷ ys) p q same =
    let first : x ≡ y = elim (cases_lt x y) [
      | inl lt ↦ absurd (smaller x y xs ys q.0 same lt)
      | inr ge ↦ elim (cases_lt y x) [ inl lt ↦ absurd (smaller y x ys xs p.0 (λ v. sym (same v)) lt) | inr le ↦ omega arith ]
    ] in
    let rest : (v : ℕ) → tally v xs ≡ tally v ys = λ v.
    let all : one v x + tally v xs ≡ one v y + tally v ys = same v in
    let heads : one v x ≡ one v y = ap (one v) first in
    omega (arith, all, heads) in
    ap₂ (λ (k : ℕ) (ks : List ℕ). k ∷ ks) first (same_rising xs ys p.1 q.1 rest)

all_by : (x : ℕ) (ys : List ℕ) → ((j : ℕ) → j < length ys → x ≤ get_or ys j 0) → AllByRecursion (λ y. x ≤ y) ys
all_by x [] above = tt
all_by x (y ∷ ys) above = (above 0 (omega arith), all_by x ys (λ j lt. above (suc j) (omega arith)))

rises_by : (ys : List ℕ) → ((i j : ℕ) → i ≤ j → j < length ys → get_or ys i 0 ≤ get_or ys j 0) → Rises ys
rises_by [] up = tt
rises_by (y ∷ ys) up = (all_by y ys (λ j lt. up 0 (suc j) (omega arith) (omega arith)), rises_by ys (λ i j le lt. up (suc i) (suc j) (omega arith) (omega arith)))

-- a sort gives the numbers in rising order
pub sorted_is : (xs ys : List ℕ) → IsPermutation xs ys → IsSorted nat_cmp ys → ys ≡ ordered xs
sorted_is xs ys moved sorted =
    let up = IsNonDecreasingBy-from_sort (λ (n : ℕ). n) ys sorted in
    let rises = rises_by ys (λ i j le lt. up i j 0 le lt) in
    same_rising ys (ordered xs) rises (rises_ordered xs) (λ v. tally_sum v ys ∙ sum_by-IsPermutation (one v) xs ys moved ∙ sym (tally_sum v xs) ∙ sym (tally_ordered v xs))
