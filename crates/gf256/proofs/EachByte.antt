-- Facts of every byte, computed.
use Rattle.std.proofs.Common.{ℕ, ◌≡◌, ◌<◌, suc, zero, Bool, true, refl, ◌==◌, ◌&&◌, arith, subst, inl, inr, bit_xor, nat_lt}
use Rattle.std.proofs.lemmas.Bool.{and_parts, eqb-true, ltb-true, cases_lt}
use Rattle.gf256.specs.Field.{double}

-- p holds of each number below n
abbrev pub each_below : ℕ → (ℕ → Bool) → Bool
each_below zero p = true
each_below (suc n) p = p n && each_below n p

-- the rule at each entry, from the test of the table
pub at_each : (n : ℕ) (p : ℕ → Bool) → each_below n p ≡ true → (k : ℕ) → k < n → p k ≡ true
at_each zero p h k lt = absurd (omega arith)
at_each (suc n) p h k lt =
    elim (cases_lt k n) [
      | inl below ↦ at_each n p (and_parts (p n) (each_below n p) h).1 k below
      | inr above ↦ (let e : n ≡ k = omega arith in let P : ℕ → Type 0 = λ m. p m ≡ true in subst P e (and_parts (p n) (each_below n p) h).0)
    ]

-- an equation of two functions, from the test at each pair
pub at_pairs : (f g : ℕ → ℕ → ℕ) → each_below 256 (λ a. each_below 256 (λ b. f a b == g a b)) ≡ true → (a b : ℕ) → a < 256 → b < 256 → f a b ≡ g a b
at_pairs f g h a b la lb = eqb-true (f a b) (g a b) (at_each 256 (λ b. f a b == g a b) (at_each 256 (λ a. each_below 256 (λ b. f a b == g a b)) h a la) b lb)

-- doubling is additive
pub double-xor : (a b : ℕ) → a < 256 → b < 256 → double (bit_xor a b) ≡ bit_xor (double a) (double b)
double-xor = at_pairs (λ a b. double (bit_xor a b)) (λ a b. bit_xor (double a) (double b)) refl

-- the double of a byte is a byte
pub double_fits : (a : ℕ) → a < 256 → double a < 256
double_fits a h = ltb-true (double a) 256 (at_each 256 (λ x. nat_lt (double x) 256) refl a h)
