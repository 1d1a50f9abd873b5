-- Eight bits of the register, and what the two tables hold.
use Rattle.std.proofs.Common.{ℕ, ◌≡◌, ◌<◌, ◌+◌, ◌*◌, ◌/◌, ◌%◌, ◌^◌, suc, zero, Bool, true, refl, ◌==◌, ◌&&◌, get_or, arith, inl, inr, sym, ap, subst, ◌∙◌, bit_xor, nat_lt}
use Rattle.std.proofs.lemmas.Bool.{and_parts, eqb-true, ltb-true, cases_lt}
use Rattle.std.proofs.lemmas.Nat.{xor_shr, xor_comm}
use Rattle.std.proofs.Math.Nat.{pow-suc}
use lib.Bits.{xor_self, xor_shifted}
use Rattle.crc32c.specs.Register.{shifted, shifts, unshifted, unshifts}
use Rattle.crc32c.specs.declared.tables.TheConstants.{TABLE, PLACES}
use Rattle.crc32c.proofs.Bits.{shifts-xor, shifted_even, shifted_fits, unshifted_fits, unshifted_shifted, shifted_unshifted, xor_twice}

-- p holds of each number below n
abbrev each_below : ℕ → (ℕ → Bool) → Bool
each_below zero p = true
each_below (suc n) p = p n && each_below n p

at_each : (n : ℕ) (p : ℕ → Bool) → each_below n p ≡ true → (k : ℕ) → k < n → p k ≡ true
at_each zero p h k lt = absurd (omega arith)
at_each (suc n) p h k lt =
    elim (cases_lt k n) [
      | inl below ↦ at_each n p (and_parts (p n) (each_below n p) h).1 k below
      | inr above ↦ (let e : n ≡ k = omega arith in let P : ℕ → Type 0 = λ m. p m ≡ true in subst P e (and_parts (p n) (each_below n p) h).0)
    ]

-- what eight bits make of a byte
pub table_is : (k : ℕ) → k < 256 → get_or TABLE k 0 ≡ shifts 8 k
unfolding shifts
table_is k h = eqb-true (get_or TABLE k 0) (shifts 8 k) (at_each 256 (λ j. get_or TABLE j 0 == shifts 8 j) refl k h)

pub table_fits : (k : ℕ) → k < 256 → get_or TABLE k 0 < 2 ^ 32
table_fits k h = ltb-true (get_or TABLE k 0) (2 ^ 32) (at_each 256 (λ j. nat_lt (get_or TABLE j 0) (2 ^ 32)) refl k h)

pub place_fits : (k : ℕ) → k < 256 → get_or PLACES k 0 < 256
place_fits k h = ltb-true (get_or PLACES k 0) 256 (at_each 256 (λ j. nat_lt (get_or PLACES j 0) 256) refl k h)

-- the place's number has this highest byte
pub place_is : (k : ℕ) → k < 256 → get_or TABLE (get_or PLACES k 0) 0 / 2 ^ 24 ≡ k
place_is k h = eqb-true (get_or TABLE (get_or PLACES k 0) 0 / 2 ^ 24) k (at_each 256 (λ j. get_or TABLE (get_or PLACES j 0) 0 / 2 ^ 24 == j) refl k h)

-- zeros at the end only leave
pub shifts_zeros : (n h : ℕ) → shifts n (h * 2 ^ n) ≡ h
unfolding shifts
shifts_zeros zero h = omega arith
shifts_zeros (suc n) h =
    let e : h * 2 ^ suc n ≡ 2 * (h * 2 ^ n) = ap (λ (p : ℕ). h * p) (pow-suc 2 n) ∙ omega arith in
    ap (λ (x : ℕ). shifts n (shifted x)) e ∙ ap (shifts n) (shifted_even (h * 2 ^ n)) ∙ shifts_zeros n h

-- a register is its lowest byte and the rest
pub parts : (x : ℕ) → bit_xor (x % 256) (x / 256 * 2 ^ 8) ≡ x
parts x = xor_comm (x % 256) (x / 256 * 2 ^ 8) ∙ xor_shifted (x / 256) 8 (x % 256) (omega arith) ∙ omega arith

-- the register eight bits further is what they make of its lowest byte, with the rest moved down
pub shifts_low : (x : ℕ) → shifts 8 x ≡ bit_xor (shifts 8 (x % 256)) (x / 256)
shifts_low x =
    ap (shifts 8) (sym (parts x)) ∙ shifts-xor 8 (x % 256) (x / 256 * 2 ^ 8) ∙ ap (bit_xor (shifts 8 (x % 256))) (shifts_zeros 8 (x / 256))

-- the same by the table
pub by_table : (x : ℕ) → bit_xor (get_or TABLE (x % 256) 0) (x / 256) ≡ shifts 8 x
by_table x = ap (λ (y : ℕ). bit_xor y (x / 256)) (table_is (x % 256) (omega arith)) ∙ sym (shifts_low x)

pub shifts_fit : (n c : ℕ) → c < 2 ^ 32 → shifts n c < 2 ^ 32
unfolding shifts
shifts_fit zero c h = h
shifts_fit (suc n) c h = shifts_fit n (shifted c) (shifted_fits c h)

pub unshifts_fit : (n y : ℕ) → y < 2 ^ 32 → unshifts n y < 2 ^ 32
unfolding unshifts
unshifts_fit zero y h = h
unshifts_fit (suc n) y h = unshifted_fits (unshifts n y) (unshifts_fit n y h)

-- bits back and forth
pub shifts_unshifts : (n y : ℕ) → shifts n (unshifts n y) ≡ y
unfolding shifts unshifts
shifts_unshifts zero y = refl
shifts_unshifts (suc n) y = ap (shifts n) (shifted_unshifted (unshifts n y)) ∙ shifts_unshifts n y

-- bits forth and back
pub unshifts_shifts : (n c : ℕ) → c < 2 ^ 32 → unshifts n (shifts n c) ≡ c
unfolding shifts unshifts
unshifts_shifts zero c h = refl
unshifts_shifts (suc n) c h = ap unshifted (unshifts_shifts n (shifted c) (shifted_fits c h)) ∙ unshifted_shifted c h

-- what is left where the place's number is taken away has 24 bits
pub high_fits : (y : ℕ) → y < 2 ^ 32 → bit_xor y (get_or TABLE (get_or PLACES (y / 2 ^ 24) 0) 0) < 2 ^ 24
high_fits y h =
    let k : y / 2 ^ 24 < 256 = omega arith in
    let t = get_or TABLE (get_or PLACES (y / 2 ^ 24) 0) 0 in
    let same : t / 2 ^ 24 ≡ y / 2 ^ 24 = place_is (y / 2 ^ 24) k in
    let none : bit_xor y t / 2 ^ 24 ≡ 0 = xor_shr y t 24 ∙ ap (bit_xor (y / 2 ^ 24)) same ∙ xor_self (y / 2 ^ 24) in
    omega arith

-- eight bits back by the tables
pub by_places : (y : ℕ) → y < 2 ^ 32 → bit_xor y (get_or TABLE (get_or PLACES (y / 2 ^ 24) 0) 0) * 256 + get_or PLACES (y / 2 ^ 24) 0 ≡ unshifts 8 y
by_places y h =
    let k : y / 2 ^ 24 < 256 = omega arith in
    let p = get_or PLACES (y / 2 ^ 24) 0 in
    let t = get_or TABLE p 0 in
    let low : p < 256 = place_fits (y / 2 ^ 24) k in
    let high : bit_xor y t < 2 ^ 24 = high_fits y h in
    let x = bit_xor y t * 256 + p in
    let fits : x < 2 ^ 32 = omega arith in
    let lowest : x % 256 ≡ p = omega arith in
    let rest : x / 256 ≡ bit_xor y t = omega arith in
    let forth : shifts 8 x ≡ y =
    sym (by_table x) ∙ ap (λ (z : ℕ). bit_xor (get_or TABLE z 0) (x / 256)) lowest ∙ ap (bit_xor t) rest
    ∙ xor_comm t (bit_xor y t) ∙ xor_twice y t in
    sym (unshifts_shifts 8 x fits) ∙ ap (unshifts 8) forth
