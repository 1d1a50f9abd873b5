-- Rows with P and Q: each slot has one role.
use Rattle.std.proofs.Common.{◌≡◌, ◌≢◌, ℕ, ◌+◌, ◌-◌, ◌%◌, ◌<◌, ◌≤◌, inl, inr, sym, arith, ap, ◌∙◌, refl}
use Rattle.std.proofs.lemmas.Bool.{cases_lt}
use Rattle.std.proofs.lemmas.Bool.Decides.{nat_tests}
use Rattle.raid_terms.specs.Role.{after, over_p_and_q}
use Rattle.raid_layouts.proofs.Single.{IsSingle, wrapped, round_in, round_once, round_apart, round_behind, round_before}

-- P and Q stand on two slots of the row, and the items on the others, each on its own
pub record IsDouble (n p q : ℕ) (item : ℕ → ℕ) : Type 0 where
  pub p_in : p < n
  pub q_in : q < n
  pub p_not_q : p ≢ q
  pub item_in : (i : ℕ) → i < n - 2 → item i < n
  pub not_p : (i : ℕ) → i < n - 2 → item i ≢ p
  pub not_q : (i : ℕ) → i < n - 2 → item i ≢ q
  pub once : (i j : ℕ) → i < n - 2 → j < n - 2 → item i ≡ item j → i ≡ j
  pub found : (s : ℕ) → s < n → s ≢ p → s ≢ q → (i : ℕ) × (i < n - 2) × (s ≡ item i)

pub after_in : (n p : ℕ) → p < n → 1 < n → (after n p < n) × (p ≢ after n p)
after_in n p h k = (grind (arith, nat_tests), grind (arith, nat_tests))

-- the slot after P by its remainder
pub after_is : (n p : ℕ) → p < n → (p + 1) % n ≡ after n p
after_is n p h =
    elim (wrapped (p + 1) n (omega arith)) [ inl x ↦ grind (arith, nat_tests) | inr x ↦ grind (arith, nat_tests) ]

pub over_in : (n p i : ℕ) → p < n → i < n - 2 → over_p_and_q n p i < n
over_in n p i h k = grind (arith, nat_tests)

pub over_not_p : (n p i : ℕ) → p < n → i < n - 2 → over_p_and_q n p i ≢ p
over_not_p n p i h k = grind (arith, nat_tests)

pub over_not_q : (n p i : ℕ) → p < n → i < n - 2 → over_p_and_q n p i ≢ after n p
over_not_q n p i h k = grind (arith, nat_tests)

pub over_once : (n p i j : ℕ) → over_p_and_q n p i ≡ over_p_and_q n p j → i ≡ j
over_once n p i j e = grind (arith, nat_tests)

-- the item of a slot, in the three stretches
pub over_before : (n p s : ℕ) → p < n - 1 → s < p → s ≡ over_p_and_q n p s
over_before n p s h k = grind (arith, nat_tests)

pub over_behind : (n p s : ℕ) → p < n - 1 → s < n → s ≢ p → s ≢ after n p → p < s → s ≡ over_p_and_q n p (s - 2)
over_behind n p s h k np nq l = grind (arith, nat_tests)

pub over_apart : (n p s : ℕ) → p ≡ n - 1 → s < n → s ≢ after n p → s ≢ p → s ≡ over_p_and_q n p (s - 1)
over_apart n p s e k nq np = grind (arith, nat_tests)

pub not_first : (n p s : ℕ) → p ≡ n - 1 → s ≢ after n p → 0 < s
not_first n p s e nq = grind (arith, nat_tests)

pub two_behind : (n p s : ℕ) → p < n - 1 → s ≢ after n p → p < s → p + 1 < s
two_behind n p s h nq l = grind (arith, nat_tests)

-- asymmetric: the items pass over P and Q
pub passing : (n p : ℕ) → 2 < n → p < n → IsDouble n p (after n p) (over_p_and_q n p)
passing n p big h = record {
  p_in = h;
  q_in = (after_in n p h (omega arith)).0;
  p_not_q = (after_in n p h (omega arith)).1;
  item_in = λ i k. over_in n p i h k;
  not_p = λ i k. over_not_p n p i h k;
  not_q = λ i k. over_not_q n p i h k;
  once = λ i j k l e. over_once n p i j e;
  found = λ s k np nq. elim (cases_lt p (n - 1)) [
    | inl inside ↦ elim (cases_lt s p) [
      | inl lt ↦ (s, omega arith, over_before n p s inside lt)
      | inr le ↦
          let gt : p < s = omega arith in
          let two : p + 1 < s = two_behind n p s inside nq gt in
          (s - 2, omega arith, over_behind n p s inside k np nq gt)
    ]
    | inr end ↦
        let e : p ≡ n - 1 = omega arith in
        let pos : 0 < s = not_first n p s e nq in
        (s - 1, omega arith, over_apart n p s e k nq np)
  ];
}

-- a slot behind P that is not the one after it
pub two_on : (n p s : ℕ) → s < n → p < s → s ≢ (p + 1) % n → p + 1 < s
two_on n p s k gt nq =
    let small : p + 1 < n + n = omega arith in
    elim (wrapped (p + 1) n small) [
      | inl x ↦ omega arith
      | inr x ↦ absurd (omega arith)
    ]

-- a slot before P is not the first where P stands on the last
pub two_round : (n p s : ℕ) → s < p → p < n → s ≢ (p + 1) % n → p + 2 ≤ s + n
two_round n p s lt h nq =
    let small : p + 1 < n + n = omega arith in
    elim (wrapped (p + 1) n small) [
      | inl x ↦ omega arith
      | inr x ↦ omega arith
    ]

-- symmetric: Q after P, and the items from there round
pub circling : (n p : ℕ) → 2 < n → p < n → IsDouble n p ((p + 1) % n) (λ i. (p + 2 + i) % n)
circling n p big h = record {
  p_in = h;
  q_in = round_in n (p + 1) (omega arith);
  p_not_q = λ e. round_apart n p p 1 h (omega arith) (omega arith) (omega arith) (sym e);
  item_in = λ i k. round_in n (p + 2 + i) (omega arith);
  not_p = λ i k. round_apart n p (p + 2) i h (omega arith) (omega arith) (omega arith);
  not_q = λ i k e.
      let x : p + 2 + i ≡ p + (2 + i) = omega arith in
      let f : (p + (2 + i)) % n ≡ (p + 1) % n = ap (λ (y : ℕ). y % n) (sym x) ∙ e in
      let same : 2 + i ≡ 1 = round_once n p (2 + i) 1 (omega arith) (omega arith) (omega arith) (omega arith) f in
      omega arith;
  once = λ i j k l e. round_once n (p + 2) i j (omega arith) (omega arith) (omega arith) (omega arith) e;
  found = λ s k np nq. elim (cases_lt s p) [
    | inl lt ↦
        let room : p + 2 ≤ s + n = two_round n p s lt h nq in
        let e : p + 1 + (s + n - p - 1) ≡ p + 2 + (s + n - p - 2) = omega arith in
        let at : s ≡ (p + 2 + (s + n - p - 2)) % n = round_before n p s lt h ∙ ap (λ (y : ℕ). y % n) e in
        let less : s + n - p - 2 < n - 2 = omega arith in
        (s + n - p - 2, less, at)
    | inr le ↦
        let gt : p < s = omega arith in
        let two : p + 1 < s = two_on n p s k gt nq in
        let e : p + 1 + (s - p - 1) ≡ p + 2 + (s - p - 2) = omega arith in
        let at : s ≡ (p + 2 + (s - p - 2)) % n = round_behind n p s k gt ∙ ap (λ (y : ℕ). y % n) e in
        (s - p - 2, omega arith, at)
  ];
}

-- a slot before P that is not the one just before it
pub one_before : (n p s : ℕ) → s < p → p < n → s ≢ (p + n - 1) % n → s + 1 < p
one_before n p s lt h nq =
    let small : p + n - 1 < n + n = omega arith in
    elim (wrapped (p + n - 1) n small) [
      | inl x ↦ absurd (omega arith)
      | inr x ↦ omega arith
    ]

-- a slot behind P that is not the last where P stands on the first
pub last_before : (n p s : ℕ) → s < n → p < s → s ≢ (p + n - 1) % n → s < p + n - 1
last_before n p s k gt nq =
    let small : p + n - 1 < n + n = omega arith in
    elim (wrapped (p + n - 1) n small) [
      | inl x ↦ omega arith
      | inr x ↦ omega arith
    ]

-- Q before P, and the items from after P round
pub continuing : (n p : ℕ) → 2 < n → p < n → IsDouble n p ((p + n - 1) % n) (λ i. (p + 1 + i) % n)
continuing n p big h =
    let as_sum : p + n - 1 ≡ p + (n - 1) = omega arith in
    let q : (p + n - 1) % n ≡ (p + (n - 1)) % n = ap (λ (y : ℕ). y % n) as_sum in
    record {
      p_in = h;
      q_in = round_in n (p + n - 1) (omega arith);
      p_not_q = λ e. round_apart n p p (n - 1) h (omega arith) (omega arith) (omega arith) (sym (e ∙ q));
      item_in = λ i k. round_in n (p + 1 + i) (omega arith);
      not_p = λ i k. round_apart n p (p + 1) i h (omega arith) (omega arith) (omega arith);
      not_q = λ i k e.
          let x : p + (1 + i) ≡ p + 1 + i = omega arith in
          let f : (p + (1 + i)) % n ≡ (p + (n - 1)) % n = ap (λ (y : ℕ). y % n) x ∙ e ∙ q in
          let same : 1 + i ≡ n - 1 = round_once n p (1 + i) (n - 1) (omega arith) (omega arith) (omega arith) (omega arith) f in
          omega arith;
      once = λ i j k l e. round_once n (p + 1) i j (omega arith) (omega arith) (omega arith) (omega arith) e;
      found = λ s k np nq. elim (cases_lt s p) [
        | inl lt ↦
            let not_q : s + 1 < p = one_before n p s lt h nq in
            (s + n - p - 1, omega arith, round_before n p s lt h)
        | inr le ↦
            let gt : p < s = omega arith in
            let not_last : s < p + n - 1 = last_before n p s k gt nq in
            (s - p - 1, omega arith, round_behind n p s k gt)
      ];
    }

-- P and Q on the first slots
pub first : (n : ℕ) → 2 < n → IsDouble n 0 1 (λ i. i + 2)
first n big = record {
  p_in = omega arith;
  q_in = omega arith;
  p_not_q = λ e. omega arith;
  item_in = λ i k. omega arith;
  not_p = λ i k e. omega arith;
  not_q = λ i k e. omega arith;
  once = λ i j k l e. omega arith;
  found = λ s k np nq. (s - 2, omega arith, omega arith);
}

-- P and Q on the last slots
pub last : (n : ℕ) → 2 < n → IsDouble n (n - 2) (n - 1) (λ i. i)
last n big = record {
  p_in = omega arith;
  q_in = omega arith;
  p_not_q = λ e. omega arith;
  item_in = λ i k. omega arith;
  not_p = λ i k e. omega arith;
  not_q = λ i k e. omega arith;
  once = λ i j k l e. e;
  found = λ s k np nq. (s, omega arith, refl);
}

-- Q on the last slot, and the others as with P alone
pub beside_last : (n p : ℕ) (item : ℕ → ℕ) → 2 < n → IsSingle (n - 1) p item → IsDouble n p (n - 1) item
beside_last n p item big l =
    let few : (i : ℕ) → i < n - 2 → i < n - 1 - 1 = λ i k. omega arith in
    record {
      p_in = let h = l.p_in in omega arith;
      q_in = omega arith;
      p_not_q = λ e. let h = l.p_in in omega arith;
      item_in = λ i k. let h = l.item_in i (few i k) in omega arith;
      not_p = λ i k. l.apart i (few i k);
      not_q = λ i k e. let h = l.item_in i (few i k) in omega arith;
      once = λ i j k m e. l.once i j (few i k) (few j m) e;
      found = λ s k np nq.
          let h = l.found s (omega arith) np in
          let less = h.1 in
          (h.0, omega arith, h.2);
    }
