-- Counting and testing over ranges of numbers.
use Rattle.std.proofs.Common.{◌≡◌, ℕ, zero, suc, ◌+◌, ◌<◌, ◌≤◌, Bool, cond, ◌&&◌, refl, ap, ◌∙◌, arith}
use Rattle.std.specs.List.{range_with_len, list_all}
use Rattle.std.specs.Prelude.{count_by}
use Rattle.std.proofs.lemmas.List.Sums.{sum_by-cons}

-- the first number apart
pub count_first : (p : ℕ → Bool) (a n : ℕ) → count_by p (range_with_len a (suc n)) ≡ cond (p a) 1 0 + count_by p (range_with_len (a + 1) n)
count_first p a n = sum_by-cons (λ j. cond (p j) 1 0) a (range_with_len (a + 1) n)

-- one more number
pub count_suc : (p : ℕ → Bool) (a n j : ℕ) → a + n ≡ j → count_by p (range_with_len a (suc n)) ≡ count_by p (range_with_len a n) + cond (p j) 1 0
count_suc p a zero j e = let at : j ≡ a = omega arith in rw at (omega arith)
count_suc p a (suc n) j e = omega (arith, count_first p a (suc n), count_first p a n, count_suc p (a + 1) n j (omega arith))

-- a longer range counts no fewer
pub count_grows : (p : ℕ → Bool) (a n m : ℕ) → n ≤ m → count_by p (range_with_len a n) ≤ count_by p (range_with_len a m)
count_grows p a zero m le = omega arith
count_grows p a (suc n) zero le = absurd (omega arith)
count_grows p a (suc n) (suc m) le = omega (arith, count_first p a n, count_first p a m, count_grows p (a + 1) n m (omega arith))

-- two tests that agree on a range
pub all_same : (p q : ℕ → Bool) (a n : ℕ) → ((x : ℕ) → a ≤ x → x < a + n → p x ≡ q x) → list_all p (range_with_len a n) ≡ list_all q (range_with_len a n)
all_same p q a zero same = refl
all_same p q a (suc n) same =
    ap (λ (b : Bool). b && list_all p (range_with_len (a + 1) n)) (same a (omega arith) (omega arith))
    ∙ ap (λ (b : Bool). q a && b) (all_same p q (a + 1) n (λ x low high. same x (omega arith) (omega arith)))
