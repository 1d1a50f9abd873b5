-- How often a byte stands in a row.
use Rattle.std.proofs.Common.{◌≡◌, ℕ, zero, suc, ◌≤◌, ◌<◌, ◌+◌, ◌==◌, Bool, true, not, cond, List, [], ◌∷◌, length, get_or, nat_le, nat_lt, count_by, position, inl, inr, refl, ap, ◌∙◌, arith, Some, None}
use Rattle.std.specs.List.{list_all, position_or_len}
use Rattle.std.proofs.lemmas.Bool.{and_parts, cases_Bool, eqb-true, eq-eqb, lt-ltb}
use Rattle.std.proofs.lemmas.Bool.Decides.{nat_tests}
use Rattle.std.proofs.lemmas.List.Sums.{get_or-le-sum_by, passes_at_first, sum_by-cons}
use Rattle.layout_tables.specs.Shape.{data_in, times}

-- what a test adds to a count
abbrev pub one_if : Bool → ℕ
one_if b = cond b 1 0

pub count_cons : (p : ℕ → Bool) (x : ℕ) (xs : List ℕ) → count_by p (x ∷ xs) ≡ one_if (p x) + count_by p xs
count_cons p x xs = sum_by-cons (λ (y : ℕ). one_if (p y)) x xs

-- an element that passes is counted
pub counted : (p : ℕ → Bool) (xs : List ℕ) (i d : ℕ) → i < length xs → p (get_or xs i d) ≡ true → 1 ≤ count_by p xs
counted p xs i d below is =
    let one : one_if (p (get_or xs i d)) ≡ 1 = ap (λ (b : Bool). one_if b) is in
    omega (arith, get_or-le-sum_by (λ (y : ℕ). one_if (p y)) xs i d below, one)

-- if one is counted there is a first that passes
pub found : (p : ℕ → Bool) (xs : List ℕ) → 1 ≤ count_by p xs → position_or_len p xs < length xs
found p [] some = absurd (omega arith)
found p (x ∷ xs) some = elim (cases_Bool (p x)) [
  | inl passes ↦ let here : position_or_len p (x ∷ xs) ≡ 0 = ap (λ (b : Bool). cond (not b) (1 + position_or_len p xs) 0) passes in omega arith
  | inr fails ↦
      let later : position_or_len p (x ∷ xs) ≡ 1 + position_or_len p xs = ap (λ (b : Bool). cond (not b) (1 + position_or_len p xs) 0) fails in
      let same : count_by p (x ∷ xs) ≡ 0 + count_by p xs = count_cons p x xs ∙ ap (λ (b : Bool). one_if b + count_by p xs) fails in
      let rest : position_or_len p xs < length xs = found p xs (omega arith) in
      omega arith
]

-- if no more than one is counted, no two places pass
pub only_one : (p : ℕ → Bool) (xs : List ℕ) (i j d : ℕ) → count_by p xs ≤ 1 → i < length xs → j < length xs → p (get_or xs i d) ≡ true → p (get_or xs j d) ≡ true → i ≡ j
only_one p [] i j d few a b is are = absurd (omega arith)
only_one p (x ∷ xs) zero zero d few a b is are = refl
only_one p (x ∷ xs) zero (suc j) d few a b is are =
    let one : one_if (p x) ≡ 1 = ap (λ (c : Bool). one_if c) is in
    let more : 1 ≤ count_by p xs = counted p xs j d (omega arith) are in
    absurd (omega (arith, count_cons p x xs))
only_one p (x ∷ xs) (suc i) zero d few a b is are =
    let one : one_if (p x) ≡ 1 = ap (λ (c : Bool). one_if c) are in
    let more : 1 ≤ count_by p xs = counted p xs i d (omega arith) is in
    absurd (omega (arith, count_cons p x xs))
only_one p (x ∷ xs) (suc i) (suc j) d few a b is are =
    let fewer : count_by p xs ≤ 1 = omega (arith, count_cons p x xs) in
    ap suc (only_one p xs i j d fewer (omega arith) (omega arith) is are)

-- ---- bytes

pub place_of : (row : List ℕ) (byte : ℕ) → times byte row ≡ 1 → (slot : ℕ) × (slot < length row) × (get_or row slot 26 ≡ byte) × (position (λ other. other == byte) row ≡ Some slot)
unfolding times
place_of row byte one =
    let Is : ℕ → Bool = λ (other : ℕ). other == byte in
    let below : position_or_len Is row < length row = found Is row (omega arith) in
    let at : (get_or row (position_or_len Is row) 26 == byte) ≡ true = passes_at_first Is row 26 below in (
      position_or_len Is row,
      below,
      eqb-true (get_or row (position_or_len Is row) 26) byte at,
      ap (λ (b : Bool). cond b (Some (position_or_len Is row)) None) (lt-ltb (position_or_len Is row) (length row) below),
    )

pub same_place : (row : List ℕ) (byte slot other : ℕ) → times byte row ≤ 1 → slot < length row → other < length row → get_or row slot 26 ≡ byte → get_or row other 26 ≡ byte → slot ≡ other
unfolding times
same_place row byte slot other few a b is are = only_one (λ o. o == byte) row slot other 26 few a b (eq-eqb (get_or row slot 26) byte is) (eq-eqb (get_or row other 26) byte are)

pub stands : (row : List ℕ) (byte slot : ℕ) → slot < length row → get_or row slot 26 ≡ byte → 1 ≤ times byte row
unfolding times
stands row byte slot below is = counted (λ o. o == byte) row slot 26 below (eq-eqb (get_or row slot 26) byte is)

-- ---- data items, P, Q and spares are all cells of a row

one_kind : (byte : ℕ) → nat_le byte 26 ≡ true → one_if (nat_lt byte 24) + one_if (byte == 24) + one_if (byte == 25) + one_if (byte == 26) ≡ 1
one_kind byte is = grind (arith, nat_tests)

pub full : (row : List ℕ) → list_all (λ byte. nat_le byte 26) row ≡ true → data_in row + times 24 row + times 25 row + times 26 row ≡ length row
unfolding times data_in
full [] all = refl
full (byte ∷ row) all =
    let parts = and_parts (nat_le byte 26) (list_all (λ b. nat_le b 26) row) all in
    let one : one_if (nat_lt byte 24) + one_if (byte == 24) + one_if (byte == 25) + one_if (byte == 26) ≡ 1 = one_kind byte parts.0 in
    let rest : data_in row + times 24 row + times 25 row + times 26 row ≡ length row = full row parts.1 in
    let a = count_cons (λ b. nat_lt b 24) byte row in
    let b = count_cons (λ b. b == 24) byte row in
    let c = count_cons (λ b. b == 25) byte row in
    let d = count_cons (λ b. b == 26) byte row in
    omega arith

-- ---- items below a number

none_below : (row : List ℕ) → count_by (λ b. nat_lt b 0) row ≡ 0
none_below [] = refl
none_below (byte ∷ row) =
    let none : one_if (nat_lt byte 0) ≡ 0 = grind (arith, nat_tests) in
    omega (arith, count_cons (λ b. nat_lt b 0) byte row, none_below row, none)

one_more : (n byte : ℕ) → one_if (nat_lt byte (suc n)) ≡ one_if (nat_lt byte n) + one_if (byte == n)
one_more n byte = grind (arith, nat_tests)

split_below : (n : ℕ) (row : List ℕ) → count_by (λ b. nat_lt b (suc n)) row ≡ count_by (λ b. nat_lt b n) row + count_by (λ b. b == n) row
split_below n [] = refl
split_below n (byte ∷ row) =
    let rest = split_below n row in
    let one = one_more n byte in
    omega (arith, count_cons (λ b. nat_lt b (suc n)) byte row, count_cons (λ b. nat_lt b n) byte row, count_cons (λ b. b == n) byte row)

-- if each number below n stands once in a row, n of its bytes are below n
pub below_count : (n : ℕ) (row : List ℕ) → ((i : ℕ) → i < n → times i row ≡ 1) → count_by (λ b. nat_lt b n) row ≡ n
unfolding times
below_count zero row each = none_below row
below_count (suc n) row each =
    let rest : count_by (λ b. nat_lt b n) row ≡ n = below_count n row (λ i below. each i (omega arith)) in
    let last : count_by (λ b. b == n) row ≡ 1 = each n (omega arith) in
    omega (arith, split_below n row)

kept : (n byte : ℕ) → n ≤ 24 → one_if (nat_lt byte n) ≤ one_if (nat_lt byte 24)
kept n byte few = grind (arith, nat_tests)

fewer_below : (n : ℕ) (row : List ℕ) → n ≤ 24 → count_by (λ b. nat_lt b n) row ≤ count_by (λ b. nat_lt b 24) row
fewer_below n [] few = omega arith
fewer_below n (byte ∷ row) few =
    let rest = fewer_below n row few in
    let one = kept n byte few in
    omega (arith, count_cons (λ b. nat_lt b n) byte row, count_cons (λ b. nat_lt b 24) byte row)

one_above : (n byte : ℕ) → n ≤ byte → byte < 24 → (one_if (nat_lt byte n) ≡ 0) × (one_if (nat_lt byte 24) ≡ 1)
one_above n byte le lt = (grind (arith, nat_tests), grind (arith, nat_tests))

-- an item from n on is counted beside those below n
pub above : (n : ℕ) (row : List ℕ) (slot d : ℕ) → slot < length row → n ≤ get_or row slot d → get_or row slot d < 24 → count_by (λ b. nat_lt b n) row + 1 ≤ count_by (λ b. nat_lt b 24) row
above n [] slot d below le lt = absurd (omega arith)
above n (byte ∷ row) zero d below le lt =
    let one = one_above n byte le lt in
    let zero_is = one.0 in
    let one_is = one.1 in
    omega (arith, count_cons (λ b. nat_lt b n) byte row, count_cons (λ b. nat_lt b 24) byte row, fewer_below n row (omega arith))
above n (byte ∷ row) (suc slot) d below le lt =
    let rest = above n row slot d (omega arith) le lt in
    let one = kept n byte (omega arith) in
    omega (arith, count_cons (λ b. nat_lt b n) byte row, count_cons (λ b. nat_lt b 24) byte row)
