-- Rows with P alone: each slot has one role.
use Rattle.std.proofs.Common.{◌≡◌, ◌≢◌, ℕ, ◌+◌, ◌-◌, ◌*◌, ◌%◌, ◌<◌, ◌≤◌, ◌⊎◌, inl, inr, sym, arith, ap, ◌∙◌, refl}
use Rattle.std.proofs.Math.Nat.{mod-eq_of_lt, add-mul-mod_self_left}
use Rattle.std.proofs.lemmas.Bool.{cases_lt}
use Rattle.std.proofs.lemmas.Bool.Decides.{nat_tests}
use Rattle.raid_terms.specs.Role.{over_p}

-- P stands on a slot of the row, and the items on the others, each on its own
pub record IsSingle (n p : ℕ) (item : ℕ → ℕ) : Type 0 where
  pub p_in : p < n
  pub item_in : (i : ℕ) → i < n - 1 → item i < n
  pub apart : (i : ℕ) → i < n - 1 → item i ≢ p
  pub once : (i j : ℕ) → i < n - 1 → j < n - 1 → item i ≡ item j → i ≡ j
  pub found : (s : ℕ) → s < n → s ≢ p → (i : ℕ) × (i < n - 1) × (s ≡ item i)

-- a number less than twice round
pub wrapped : (x n : ℕ) → x < n + n → ((x < n) × (x % n ≡ x)) ⊎ ((n ≤ x) × (x % n ≡ x - n))
wrapped x n h =
    elim (cases_lt x n) [
      | inl lt ↦ inl (lt, mod-eq_of_lt lt)
      | inr le ↦
          let small : x - n < n = omega arith in
          let e : x ≡ (x - n) + n * 1 = omega arith in
          let once : ((x - n) + n * 1) % n ≡ x - n = add-mul-mod_self_left (x - n) n 1 ∙ mod-eq_of_lt small in
          inr (le, ap (λ (y : ℕ). y % n) e ∙ once)
    ]

pub over_p_in : (n p i : ℕ) → p < n → i < n - 1 → over_p p i < n
over_p_in n p i h k = grind (arith, nat_tests)

pub over_p_apart : (p i : ℕ) → over_p p i ≢ p
over_p_apart p i = grind (arith, nat_tests)

pub over_p_once : (p i j : ℕ) → over_p p i ≡ over_p p j → i ≡ j
over_p_once p i j e = grind (arith, nat_tests)

pub over_p_before : (p s : ℕ) → s < p → s ≡ over_p p s
over_p_before p s h = grind (arith, nat_tests)

pub over_p_behind : (p s : ℕ) → p < s → s ≡ over_p p (s - 1)
over_p_behind p s h = grind (arith, nat_tests)

-- asymmetric: the items pass over P
pub passing : (n p : ℕ) → p < n → IsSingle n p (over_p p)
passing n p h = record {
  p_in = h;
  item_in = λ i k. over_p_in n p i h k;
  apart = λ i k. over_p_apart p i;
  once = λ i j k l e. over_p_once p i j e;
  found = λ s k ne. elim (cases_lt s p) [
    | inl lt ↦ (s, omega arith, over_p_before p s lt)
    | inr le ↦ let gt : p < s = omega arith in (s - 1, omega arith, over_p_behind p s gt)
  ];
}

-- symmetric: the items begin after P and go round
pub round_in : (n x : ℕ) → 0 < n → x % n < n
round_in n x h = omega arith

pub round_behind : (n p s : ℕ) → s < n → p < s → s ≡ (p + 1 + (s - p - 1)) % n
round_behind n p s h k =
    let e : p + 1 + (s - p - 1) ≡ s = omega arith in
    rw e (sym (mod-eq_of_lt h))

pub round_before : (n p s : ℕ) → s < p → p < n → s ≡ (p + 1 + (s + n - p - 1)) % n
round_before n p s h k =
    let e : p + 1 + (s + n - p - 1) ≡ s + n * 1 = omega arith in
    let small : s < n = omega arith in
    rw e (sym (add-mul-mod_self_left s n 1 ∙ mod-eq_of_lt small))

-- places on the way round that are less than once round apart differ
pub round_once : (n a i j : ℕ) → a + i < n + n → a + j < n + n → i < n → j < n → (a + i) % n ≡ (a + j) % n → i ≡ j
round_once n a i j h k hi hj e =
    elim (wrapped (a + i) n h) [
      | inl x ↦ elim (wrapped (a + j) n k) [ inl y ↦ omega arith | inr y ↦ omega arith ]
      | inr x ↦ elim (wrapped (a + j) n k) [ inl y ↦ omega arith | inr y ↦ omega arith ]
    ]

-- nor do they come back to a slot that stands before the first of them, fewer than once round
pub round_apart : (n p a i : ℕ) → p < n → a + i < n + n → p < a + i → a + i < p + n → (a + i) % n ≢ p
round_apart n p a i h k lt gt e =
    elim (wrapped (a + i) n k) [ inl x ↦ omega arith | inr x ↦ omega arith ]

pub circling : (n p : ℕ) → p < n → IsSingle n p (λ i. (p + 1 + i) % n)
circling n p h = record {
  p_in = h;
  item_in = λ i k. round_in n (p + 1 + i) (omega arith);
  apart = λ i k. round_apart n p (p + 1) i h (omega arith) (omega arith) (omega arith);
  once = λ i j k l e. round_once n (p + 1) i j (omega arith) (omega arith) (omega arith) (omega arith) e;
  found = λ s k ne. elim (cases_lt s p) [
    | inl lt ↦ (s + n - p - 1, omega arith, round_before n p s lt h)
    | inr le ↦ let gt : p < s = omega arith in (s - p - 1, omega arith, round_behind n p s k gt)
  ];
}

-- P on the first slot, and on the last
pub first : (n : ℕ) → 0 < n → IsSingle n 0 (λ i. i + 1)
first n h = record {
  p_in = h;
  item_in = λ i k. omega arith;
  apart = λ i k e. omega arith;
  once = λ i j k l e. omega arith;
  found = λ s k ne. (s - 1, omega arith, omega arith);
}

pub last : (n : ℕ) → 0 < n → IsSingle n (n - 1) (λ i. i)
last n h = record {
  p_in = omega arith;
  item_in = λ i k. omega arith;
  apart = λ i k e. omega arith;
  once = λ i j k l e. e;
  found = λ s k ne. (s, omega arith, refl);
}
