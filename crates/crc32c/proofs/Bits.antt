-- One bit of the register: it is additive, and can be undone.
use Rattle.std.proofs.Common.{ℕ, ◌≡◌, ◌<◌, ◌≤◌, ◌+◌, ◌*◌, ◌-◌, ◌/◌, ◌%◌, ◌^◌, suc, zero, true, false, refl, ◌==◌, arith, inl, inr, sym, ap, subst, ◌∙◌, bit_xor, cond}
use Rattle.std.proofs.lemmas.Bool.{cases_lt}
use Rattle.std.proofs.lemmas.Bool.Decides.{nat_tests}
use Rattle.std.proofs.lemmas.Nat.{xor_shr, xor_mod, xor_comm, xor_lt, xor_block}
use lib.Bits.{xor_assoc, xor_self, xor_zero_r}
use Rattle.crc32c.specs.Register.{shifted, shifts, unshifted}

-- (a ^ b) ^ (c ^ d) is (a ^ c) ^ (b ^ d)
pub xor_swap : (a b c d : ℕ) → bit_xor (bit_xor a b) (bit_xor c d) ≡ bit_xor (bit_xor a c) (bit_xor b d)
xor_swap a b c d =
    xor_assoc a b (bit_xor c d) ∙ ap (bit_xor a) (sym (xor_assoc b c d) ∙ ap (λ (x : ℕ). bit_xor x d) (xor_comm b c) ∙ xor_assoc c b d)
    ∙ sym (xor_assoc a c (bit_xor b d))

-- what is added twice is gone
pub xor_twice : (a b : ℕ) → bit_xor (bit_xor a b) b ≡ a
xor_twice a b = xor_assoc a b b ∙ ap (bit_xor a) (xor_self b) ∙ xor_zero_r a

-- the polynomial, where a bit is 1
abbrev taken : ℕ → ℕ
taken bit = cond (bit == 1) 0x82F63B78 0

taken_xor : (x y : ℕ) → x < 2 → y < 2 → taken (bit_xor x y) ≡ bit_xor (taken x) (taken y)
taken_xor zero zero hx hy = refl
taken_xor zero (suc zero) hx hy = refl
taken_xor (suc zero) zero hx hy = refl
taken_xor (suc zero) (suc zero) hx hy = refl
taken_xor x (suc (suc y)) hx hy = absurd (omega arith)
taken_xor (suc (suc x)) y hx hy = absurd (omega arith)

shifted_is : (c : ℕ) → shifted c ≡ bit_xor (c / 2) (taken (c % 2))
shifted_is c = elim (c % 2 == 1) as (λ t. cond t (bit_xor (c / 2) 0x82F63B78) (c / 2) ≡ bit_xor (c / 2) (cond t 0x82F63B78 0)) [
  | true ↦ refl
  | false ↦ sym (xor_zero_r (c / 2))
]

-- a bit further is additive
pub shifted-xor : (a b : ℕ) → shifted (bit_xor a b) ≡ bit_xor (shifted a) (shifted b)
shifted-xor a b =
    shifted_is (bit_xor a b)
    ∙ ap (λ (x : ℕ). bit_xor x (taken (bit_xor a b % 2))) (xor_shr a b 1)
    ∙ ap (λ (x : ℕ). bit_xor (bit_xor (a / 2) (b / 2)) (taken x)) (xor_mod a b 1)
    ∙ ap (bit_xor (bit_xor (a / 2) (b / 2))) (taken_xor (a % 2) (b % 2) (omega arith) (omega arith))
    ∙ xor_swap (a / 2) (b / 2) (taken (a % 2)) (taken (b % 2))
    ∙ ap (λ (x : ℕ). bit_xor x (bit_xor (b / 2) (taken (b % 2)))) (sym (shifted_is a))
    ∙ ap (bit_xor (shifted a)) (sym (shifted_is b))

pub shifts-xor : (n a b : ℕ) → shifts n (bit_xor a b) ≡ bit_xor (shifts n a) (shifts n b)
unfolding shifts
shifts-xor zero a b = refl
shifts-xor (suc n) a b = ap (shifts n) (shifted-xor a b) ∙ shifts-xor n (shifted a) (shifted b)

-- an even number is halved
pub shifted_even : (h : ℕ) → shifted (2 * h) ≡ h
shifted_even h =
    let even : 2 * h % 2 ≡ 0 = omega arith in
    let half : 2 * h / 2 ≡ h = omega arith in
    shifted_is (2 * h) ∙ ap (λ (x : ℕ). bit_xor (2 * h / 2) (taken x)) even ∙ xor_zero_r (2 * h / 2) ∙ half

-- an odd one too, and the polynomial is taken away
shifted_odd : (h : ℕ) → shifted (2 * h + 1) ≡ bit_xor h 0x82F63B78
shifted_odd h =
    let odd : (2 * h + 1) % 2 ≡ 1 = omega arith in
    let half : (2 * h + 1) / 2 ≡ h = omega arith in
    shifted_is (2 * h + 1) ∙ ap (λ (x : ℕ). bit_xor ((2 * h + 1) / 2) (taken x)) odd ∙ ap (λ (x : ℕ). bit_xor x 0x82F63B78) half

-- the polynomial as its highest bit and the rest
polynomial_high : (r : ℕ) → r < 2 ^ 31 → bit_xor r 0x82F63B78 ≡ 2 ^ 31 + bit_xor r 0x2F63B78
polynomial_high r h =
    let left : 0 * 2 ^ 31 + r ≡ r = omega arith in
    let e : bit_xor (0 * 2 ^ 31 + r) 0x82F63B78 ≡ 1 * 2 ^ 31 + bit_xor r 0x2F63B78 = xor_block 31 0 1 r 0x2F63B78 h (omega arith) in
    sym (ap (λ (x : ℕ). bit_xor x 0x82F63B78) left) ∙ e

-- the highest bit is taken away
pub high_gone : (y : ℕ) → 2 ^ 31 ≤ y → y < 2 ^ 32 → bit_xor y 0x82F63B78 < 2 ^ 31
high_gone y from below =
    let r : y - 2 ^ 31 < 2 ^ 31 = omega arith in
    let e : y ≡ 1 * 2 ^ 31 + (y - 2 ^ 31) = omega arith in
    let f : bit_xor y 0x82F63B78 ≡ 0 + bit_xor (y - 2 ^ 31) 0x2F63B78 =
    ap (λ (x : ℕ). bit_xor x 0x82F63B78) e ∙ xor_block 31 1 1 (y - 2 ^ 31) 0x2F63B78 r (omega arith) in
    let small : bit_xor (y - 2 ^ 31) 0x2F63B78 < 2 ^ 31 = xor_lt 31 (y - 2 ^ 31) 0x2F63B78 r (omega arith) in
    omega arith

pub shifted_fits : (c : ℕ) → c < 2 ^ 32 → shifted c < 2 ^ 32
shifted_fits c h =
    let small : bit_xor (c / 2) 0x82F63B78 < 2 ^ 32 = xor_lt 32 (c / 2) 0x82F63B78 (omega arith) (omega arith) in
    elim (c % 2 == 1) as (λ t. cond t (bit_xor (c / 2) 0x82F63B78) (c / 2) < 2 ^ 32) [ true ↦ small | false ↦ omega arith ]

pub unshifted_fits : (y : ℕ) → y < 2 ^ 32 → unshifted y < 2 ^ 32
unshifted_fits y h = elim (cases_lt y (2 ^ 31)) [
  | inl below ↦ grind (arith, nat_tests)
  | inr above ↦ (let small : bit_xor y 0x82F63B78 < 2 ^ 31 = high_gone y above h in grind (arith, nat_tests))
]

-- a bit back, where the register's highest bit is 0 and where it is 1
unshifted_low : (y : ℕ) → y < 2 ^ 31 → unshifted y ≡ 2 * y
unshifted_low y h = grind (arith, nat_tests)

unshifted_high : (y : ℕ) → 2 ^ 31 ≤ y → unshifted y ≡ 2 * bit_xor y 0x82F63B78 + 1
unshifted_high y h = grind (arith, nat_tests)

-- a bit back and forth
pub shifted_unshifted : (y : ℕ) → shifted (unshifted y) ≡ y
shifted_unshifted y = elim (cases_lt y (2 ^ 31)) [
  | inl below ↦ ap shifted (unshifted_low y below) ∙ shifted_even y
  | inr above ↦ ap shifted (unshifted_high y above) ∙ shifted_odd (bit_xor y 0x82F63B78) ∙ xor_twice y 0x82F63B78
]

-- a number as its half and its lowest bit
even_or_odd : (c : ℕ) → (P : ℕ → Type 0) → P (2 * (c / 2)) → P (2 * (c / 2) + 1) → P c
even_or_odd c P even odd = elim (cases_lt (c % 2) 1) [
  | inl z ↦ (let e : 2 * (c / 2) ≡ c = omega arith in subst P e even)
  | inr o ↦ (let e : 2 * (c / 2) + 1 ≡ c = omega arith in subst P e odd)
]

-- and forth and back
pub unshifted_shifted : (c : ℕ) → c < 2 ^ 32 → unshifted (shifted c) ≡ c
unshifted_shifted c h =
    let half : c / 2 < 2 ^ 31 = omega arith in
    let high : bit_xor (c / 2) 0x82F63B78 ≡ 2 ^ 31 + bit_xor (c / 2) 0x2F63B78 = polynomial_high (c / 2) half in
    even_or_odd c (λ x. unshifted (shifted x) ≡ x)
    (ap unshifted (shifted_even (c / 2)) ∙ unshifted_low (c / 2) half)
    (ap unshifted (shifted_odd (c / 2)) ∙ unshifted_high (bit_xor (c / 2) 0x82F63B78) (omega arith)
    ∙ ap (λ (x : ℕ). 2 * x + 1) (xor_twice (c / 2) 0x82F63B78))
