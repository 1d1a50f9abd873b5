-- Powers of 2, and what the two tables hold.
use Rattle.std.proofs.Common.{ℕ, ◌≡◌, ◌≢◌, ◌<◌, ◌+◌, ◌-◌, ◌%◌, suc, zero, refl, ◌==◌, ◌||◌, get_or, ◌^◌, arith, inl, inr, sym, ap, ◌∙◌, nat_lt, bit_xor}
use Rattle.std.proofs.lemmas.Bool.{eqb-true, ltb-true, cases_lt, or_cases, cases_eq}
use Rattle.gf256.specs.Field.{times, power_of, double, product}
use Rattle.gf256.specs.declared.tables.TheConstants.{POWERS, LOGARITHMS}
use Rattle.gf256.proofs.Sums.{equal_from_sum}
use Rattle.gf256.proofs.EachByte.{at_each, double_fits}
use Rattle.gf256.proofs.Products.{times-double, product_zero, product_zero_left}

pub powers_is : (k : ℕ) → k < 255 → get_or POWERS k 0 ≡ power_of k
unfolding power_of
powers_is k h = eqb-true (get_or POWERS k 0) (power_of k) (at_each 255 (λ j. get_or POWERS j 0 == power_of j) refl k h)

pub logarithm_fits : (a : ℕ) → a < 256 → get_or LOGARITHMS a 0 < 255
logarithm_fits a h = ltb-true (get_or LOGARITHMS a 0) 255 (at_each 256 (λ j. nat_lt (get_or LOGARITHMS j 0) 255) refl a h)

pub power_of_logarithm : (a : ℕ) → a < 256 → a ≢ 0 → power_of (get_or LOGARITHMS a 0) ≡ a
unfolding power_of
power_of_logarithm a h ne =
    elim (or_cases (a == 0) (power_of (get_or LOGARITHMS a 0) == a) (at_each 256 (λ j. (j == 0) || (power_of (get_or LOGARITHMS j 0) == j)) refl a h)) [
      | inl z ↦ absurd (ne (eqb-true a 0 z))
      | inr e ↦ eqb-true (power_of (get_or LOGARITHMS a 0)) a e
    ]

pub first : power_of 0 ≡ 1
unfolding power_of
first = refl

pub next : (k : ℕ) → power_of (k + 1) ≡ double (power_of k)
unfolding power_of
next k = ap power_of (let e : k + 1 ≡ suc k = omega arith in e)

pub power_fits : (k : ℕ) → power_of k < 256
unfolding power_of
power_fits zero = omega arith
power_fits (suc k) = double_fits (power_of k) (power_fits k)

pub product_one : (a : ℕ) → a < 256 → product a 1 ≡ a
unfolding times
product_one a h = eqb-true (product a 1) a (at_each 256 (λ j. product j 1 == j) refl a h)

pub product_powers : (i j : ℕ) → product (power_of i) (power_of j) ≡ power_of (i + j)
unfolding power_of
product_powers i zero = product_one (power_of i) (power_fits i) ∙ ap power_of (let e : i ≡ i + 0 = omega arith in e)
product_powers i (suc j) =
    times-double (power_of i) (power_of j) (power_fits i) (power_fits j) ∙ ap double (product_powers i j)
    ∙ ap power_of (let e : suc (i + j) ≡ i + suc j = omega arith in e)

pub powers_add : (i j : ℕ) → power_of (i + j) ≡ product (power_of i) (power_of j)
powers_add i j = sym (product_powers i j)

pub period : (i : ℕ) → power_of (i + 255) ≡ power_of i
unfolding power_of
period zero = refl
period (suc i) = ap power_of (let e : suc i + 255 ≡ suc (i + 255) = omega arith in e) ∙ ap double (period i)

pub power-mod : (n : ℕ) → n < 510 → power_of (n % 255) ≡ power_of n
power-mod n h = elim (cases_lt n 255) [
  | inl below ↦ ap power_of (let e : n % 255 ≡ n = omega arith in e)
  | inr above ↦ sym (period (n % 255)) ∙ ap power_of (let e : n % 255 + 255 ≡ n = omega arith in e)
]

-- the product by the tables
pub by_logarithms : (a b : ℕ) → a < 256 → b < 256 → a ≢ 0 → b ≢ 0 → get_or POWERS ((get_or LOGARITHMS a 0 + get_or LOGARITHMS b 0) % 255) 0 ≡ product a b
by_logarithms a b ha hb na nb =
    let i = get_or LOGARITHMS a 0 in
    let j = get_or LOGARITHMS b 0 in
    let li : get_or LOGARITHMS a 0 < 255 = logarithm_fits a ha in
    let lj : get_or LOGARITHMS b 0 < 255 = logarithm_fits b hb in
    powers_is ((i + j) % 255) (omega arith) ∙ power-mod (i + j) (omega arith) ∙ sym (product_powers i j)
    ∙ ap (λ (x : ℕ). product x (power_of j)) (power_of_logarithm a ha na) ∙ ap (product a) (power_of_logarithm b hb nb)

full : power_of 255 ≡ 1
unfolding power_of
full = refl

pub by_logarithm_inverse : (a : ℕ) → a < 256 → a ≢ 0 → product a (get_or POWERS ((255 - get_or LOGARITHMS a 0) % 255) 0) ≡ 1
by_logarithm_inverse a ha na =
    let i = get_or LOGARITHMS a 0 in
    let li : get_or LOGARITHMS a 0 < 255 = logarithm_fits a ha in
    ap (product a) (powers_is ((255 - i) % 255) (omega arith) ∙ power-mod (255 - i) (omega arith))
    ∙ ap (λ (x : ℕ). product x (power_of (255 - i))) (sym (power_of_logarithm a ha na)) ∙ product_powers i (255 - i)
    ∙ ap power_of (let e : i + (255 - i) ≡ 255 = omega arith in e) ∙ full

pub inverse_fits : (a : ℕ) → a < 2 ^ 8 → get_or POWERS ((255 - get_or LOGARITHMS a 0) % 255) 0 < 2 ^ 8
inverse_fits a ha =
    let e : get_or POWERS ((255 - get_or LOGARITHMS a 0) % 255) 0 ≡ power_of ((255 - get_or LOGARITHMS a 0) % 255) = powers_is ((255 - get_or LOGARITHMS a 0) % 255) (omega arith) in
    let fits : power_of ((255 - get_or LOGARITHMS a 0) % 255) < 256 = power_fits ((255 - get_or LOGARITHMS a 0) % 255) in
    omega arith

pub power_small : (n : ℕ) → n < 256 → get_or POWERS (n % 255) 0 ≡ power_of n
power_small n h = powers_is (n % 255) (omega arith) ∙ power-mod n (omega arith)

pub commutes : (a b : ℕ) → a < 2 ^ 8 → b < 2 ^ 8 → product a b ≡ product b a
commutes a b ha hb =
    elim (cases_eq a 0) [
      | inl z ↦ ap (λ (x : ℕ). product x b) z ∙ product_zero_left b ∙ sym (product_zero b) ∙ sym (ap (product b) z)
      | inr na ↦ elim (cases_eq b 0) [
        | inl z ↦ ap (product a) z ∙ product_zero a ∙ sym (product_zero_left a) ∙ sym (ap (λ (x : ℕ). product x a) z)
        | inr nb ↦ sym (by_logarithms a b ha hb na nb) ∙ ap (λ (s : ℕ). get_or POWERS (s % 255) 0) (let e : get_or LOGARITHMS a 0 + get_or LOGARITHMS b 0 ≡ get_or LOGARITHMS b 0 + get_or LOGARITHMS a 0 = omega arith in e) ∙ by_logarithms b a hb ha nb na
      ]
    ]

-- the logarithm of a power is its exponent
logarithm_of_power : (k : ℕ) → k < 255 → get_or LOGARITHMS (power_of k) 0 ≡ k
unfolding power_of
logarithm_of_power k h = eqb-true (get_or LOGARITHMS (power_of k) 0) k (at_each 255 (λ j. get_or LOGARITHMS (power_of j) 0 == j) refl k h)

pub distinct : (i j : ℕ) → i < 255 → j < 255 → power_of i ≡ power_of j → i ≡ j
distinct i j hi hj e = sym (logarithm_of_power i hi) ∙ ap (λ (x : ℕ). get_or LOGARITHMS x 0) e ∙ logarithm_of_power j hj

pub sum_not_zero : (i j : ℕ) → i < 255 → j < 255 → i ≢ j → bit_xor (power_of i) (power_of j) ≢ 0
sum_not_zero i j hi hj ne e = ne (distinct i j hi hj (equal_from_sum (power_of i) (power_of j) e))

-- what is doubled is 0 only where its double is
double_zero : (x : ℕ) → x < 256 → double x ≡ 0 → x ≡ 0
double_zero x h e =
    elim (or_cases (nat_lt 0 (double x)) (x == 0) (at_each 256 (λ j. nat_lt 0 (double j) || (j == 0)) refl x h)) [
      | inl n ↦ (let above : 0 < double x = ltb-true 0 (double x) n in absurd (omega (arith, above, e)))
      | inr z ↦ eqb-true x 0 z
    ]

pub not_zero : (k : ℕ) → power_of k ≢ 0
unfolding power_of
not_zero zero e = absurd (omega (arith, e))
not_zero (suc k) e = not_zero k (double_zero (power_of k) (power_fits k) e)

pub is_power : (a : ℕ) → a < 2 ^ 8 → a ≢ 0 → (k : ℕ) × (k < 255) × (power_of k ≡ a)
is_power a h ne = (get_or LOGARITHMS a 0, logarithm_fits a h, power_of_logarithm a h ne)
