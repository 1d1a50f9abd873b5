-- The first number that passes a test, and whether one does.
use Rattle.std.proofs.Common.{◌≡◌, ℕ, zero, suc, ◌+◌, ◌<◌, ◌≤◌, cond, List, length, get_or, arith, ap, refl, ◌∙◌, Bool, true, false, ◌||◌, Option, Some, None, inl, inr}
use Rattle.std.proofs.lemmas.Bool.{cases_eq}
use Rattle.std.proofs.lemmas.List.Folds.{find_at}
use Rattle.std.proofs.lemmas.List.Sums.{position_or_len_is}
use Rattle.std.proofs.lemmas.Option.{slice_get-get_or, slice_get_past}
use Rattle.std.specs.List.{find, range_with_len, slice_get}

first_if : (b : Bool) (k : ℕ) (rest : Option ℕ) → b ≡ true → cond b (Some k) rest ≡ Some k
first_if true k rest e = refl
first_if false k rest e = (cc)

later_if : (b : Bool) (k : ℕ) (rest : Option ℕ) → (b ≡ true → ⊥) → cond b (Some k) rest ≡ rest
later_if true k rest no_first = absurd (no_first refl)
later_if false k rest no_first = refl

-- none passes
pub find_none : (p : ℕ → Bool) (a n : ℕ) → ((j : ℕ) → a ≤ j → j < a + n → p j ≡ true → ⊥) → find p (range_with_len a n) ≡ None
find_none p a zero fails = refl
find_none p a (suc n) fails =
    later_if (p a) a (find p (range_with_len (a + 1) n)) (λ e. fails a (omega arith) (omega arith) e)
    ∙ find_none p (a + 1) n (λ j le lt e. fails j (omega arith) (omega arith) e)

-- just one passes
pub find_one : (p : ℕ → Bool) (a n k : ℕ) → a ≤ k → k < a + n → p k ≡ true → ((j : ℕ) → a ≤ j → j < a + n → p j ≡ true → j ≡ k) → find p (range_with_len a n) ≡ Some k
find_one p a zero k le lt here one = absurd (omega arith)
find_one p a (suc n) k le lt here one =
    elim (cases_eq a k) [
      | inl e ↦ first_if (p a) a (find p (range_with_len (a + 1) n)) (ap p e ∙ here) ∙ ap (λ (x : ℕ). Some x) e
      | inr ne ↦
          later_if (p a) a (find p (range_with_len (a + 1) n)) (λ e. ne (one a (omega arith) (omega arith) e))
          ∙ find_one p (a + 1) n k (omega arith) (omega arith) here (λ j le2 lt2 e. one j (omega arith) (omega arith) e)
    ]

pub or_first : (a b : Bool) → a ≡ true → (a || b) ≡ true
or_first true b e = refl
or_first false b e = (cc)

pub or_second : (a b : Bool) → b ≡ true → (a || b) ≡ true
or_second true b e = refl
or_second false b e = e

pub or_none : (a b : Bool) → (a ≡ true → ⊥) → b ≡ false → (a || b) ≡ false
or_none true b no_first e = absurd (no_first refl)
or_none false b no_first e = e

-- the first of a list, with those before it
pub found_first : (p : ℕ → Bool) (xs : List ℕ) (i : ℕ) → i < length xs → ((k : ℕ) → k < i → p (get_or xs k 0) ≡ false) → p (get_or xs i 0) ≡ true →
    find p xs ≡ Some (get_or xs i 0)
found_first p xs i below before here =
    find_at p xs
    ∙ ap (λ (k : ℕ). slice_get xs k) (position_or_len_is p xs i 0 (omega arith) before (λ h. here))
    ∙ slice_get-get_or xs i 0 below

pub found_nowhere : (p : ℕ → Bool) (xs : List ℕ) → ((k : ℕ) → k < length xs → p (get_or xs k 0) ≡ false) → find p xs ≡ None
found_nowhere p xs before =
    find_at p xs
    ∙ ap (λ (k : ℕ). slice_get xs k) (position_or_len_is p xs (length xs) 0 (omega arith) before (λ h. absurd (omega arith)))
    ∙ slice_get_past xs (length xs) (omega arith)
