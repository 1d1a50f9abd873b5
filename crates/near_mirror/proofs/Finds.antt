-- What the first number of a range with a property says of the others.
use Rattle.std.proofs.Common.{◌≡◌, ℕ, zero, suc, ◌+◌, ◌-◌, ◌<◌, ◌≤◌, Bool, true, false, cond, List, [], ◌∷◌, refl, sym, ap, ◌∙◌, arith, Option, None, Some}
use Rattle.std.specs.List.{find, range_with_len}
use Rattle.std.specs.Option.{unwrap_or}

found_step : (p : ℕ → Bool) (b : Bool) (a n c : ℕ) → p a ≡ b → (find p (range_with_len (a + 1) n) ≡ Some c → (p c ≡ true) × (a + 1 ≤ c) × (c < a + 1 + n)) →
    cond b (Some a) (find p (range_with_len (a + 1) n)) ≡ Some c → (p c ≡ true) × (a ≤ c) × (c < a + suc n)
found_step p true a n c is more e = let same : a ≡ c = ap (λ (o : Option ℕ). unwrap_or o 0) e in (ap p (sym same) ∙ is, omega arith, omega arith)
found_step p false a n c is more e = let h = more e in (h.0, omega arith, omega arith)

-- it has the property, and is one of the range
pub found : (p : ℕ → Bool) (a n c : ℕ) → find p (range_with_len a n) ≡ Some c → (p c ≡ true) × (a ≤ c) × (c < a + n)
found p a zero c e = absurd cc
found p a (suc n) c e = found_step p (p a) a n c refl (found p (a + 1) n c) e

missed_step : (p : ℕ → Bool) (b : Bool) (a n i : ℕ) → p a ≡ b → ((j : ℕ) → find p (range_with_len (a + 1) n) ≡ None → j < n → p (a + 1 + j) ≡ false) →
    cond b (Some a) (find p (range_with_len (a + 1) n)) ≡ None → i < suc n → p (a + i) ≡ false
missed_step p true a n i is more e lt = absurd cc
missed_step p false a n zero is more e lt = let same : a + 0 ≡ a = omega arith in ap p same ∙ is
missed_step p false a n (suc i) is more e lt = let same : a + suc i ≡ a + 1 + i = omega arith in ap p same ∙ more i e (omega arith)

-- where there is none, each is without it
pub missed : (p : ℕ → Bool) (a n i : ℕ) → find p (range_with_len a n) ≡ None → i < n → p (a + i) ≡ false
missed p a zero i e lt = absurd (omega arith)
missed p a (suc n) i e lt = missed_step p (p a) a n i refl (missed p (a + 1) n) e lt

-- where each is without it, there is none
none_of : (p : ℕ → Bool) (a n : ℕ) → ((c : ℕ) → a ≤ c → c < a + n → p c ≡ false) → find p (range_with_len a n) ≡ None
none_of p a zero without = refl
none_of p a (suc n) without =
    ap (λ (b : Bool). cond b (Some a) (find p (range_with_len (a + 1) n))) (without a (omega arith) (omega arith))
    ∙ none_of p (a + 1) n (λ c le lt. without c (omega arith) (omega arith))

further_step : (p : ℕ → Bool) (b : Bool) (a n k : ℕ) → p a ≡ b →
    ((find p (range_with_len (a + 1) n) ≡ None → (c : ℕ) → a + 1 + n ≤ c → c < a + 1 + n + k → p c ≡ false) → find p (range_with_len (a + 1) n) ≡ find p (range_with_len (a + 1) (n + k))) →
    (cond b (Some a) (find p (range_with_len (a + 1) n)) ≡ None → (c : ℕ) → a + suc n ≤ c → c < a + suc n + k → p c ≡ false) →
    cond b (Some a) (find p (range_with_len (a + 1) n)) ≡ cond b (Some a) (find p (range_with_len (a + 1) (n + k)))
further_step p true a n k is more without = refl
further_step p false a n k is more without = more (λ none c le lt. without none c (omega arith) (omega arith))

-- a longer range has the same one, where all that are new are without it if those before are
further : (p : ℕ → Bool) (a n k : ℕ) → (find p (range_with_len a n) ≡ None → (c : ℕ) → a + n ≤ c → c < a + n + k → p c ≡ false) → find p (range_with_len a n) ≡ find p (range_with_len a (n + k))
further p a zero k without = sym (none_of p a (0 + k) (λ c le lt. without refl c (omega arith) (omega arith)))
further p a (suc n) k without =
    let same : suc (n + k) ≡ suc n + k = omega arith in
    further_step p (p a) a n k refl (further p (a + 1) n k) without
    ∙ ap (λ (m : ℕ). find p (range_with_len a m)) same

no_other : (b : Bool) → (b ≡ true → ⊥) → b ≡ false
no_other true not = absurd (not refl)
no_other false not = refl

pub clash : (b : Bool) → b ≡ true → b ≡ false → ⊥
clash true is not = absurd cc
clash false is not = absurd cc

-- a longer range has the same one, where for each with the property one of the first has it
pub in_front : (p : ℕ → Bool) (n more : ℕ) → n ≤ more → ((c : ℕ) → c < more → p c ≡ true → (e : ℕ) × (e < n) × (p e ≡ true)) → find p (range_with_len 0 n) ≡ find p (range_with_len 0 more)
in_front p n more le back =
    let rest : n + (more - n) ≡ more = omega arith in
    further p 0 n (more - n) (λ none c low high. no_other (p c) (λ is. let h = back c (omega arith) is in absurd (clash (p h.0) h.2 (let same : h.0 ≡ 0 + h.0 = omega arith in ap p same ∙ missed p 0 n h.0 none h.1))))
    ∙ ap (λ (k : ℕ). find p (range_with_len 0 k)) rest

-- two properties that agree on all numbers have the same first one
pub same_find : (p q : ℕ → Bool) (xs : List ℕ) → ((x : ℕ) → p x ≡ q x) → find p xs ≡ find q xs
same_find p q [] agree = refl
same_find p q (x ∷ xs) agree = ap (λ (b : Bool). cond b (Some x) (find p xs)) (agree x) ∙ ap (λ (o : Option ℕ). cond (q x) (Some x) o) (same_find p q xs agree)
