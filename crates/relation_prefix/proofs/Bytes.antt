-- Tests of ranges of numbers, and of all lists of bytes.
use Rattle.std.proofs.Common.{ℕ, zero, suc, ◌≡◌, ◌<◌, ◌≤◌, ◌+◌, ◌||◌, Bool, true, false, List, [], ◌∷◌, length, get_or, map, refl, sym, ap, ◌∙◌, arith, inl, inr}
use Rattle.std.specs.List.{AllByRecursion, list_all, list_any, range_with_len}
use Rattle.std.proofs.lemmas.Bool.{and_from, cases_lt, cases_Bool, false≢true, or_from, or_left, or_right}
use Rattle.relation_prefix.specs.Sampled.{some_bytes}

pub all_from : (f : ℕ → Bool) (a n : ℕ) → ((x : ℕ) → a ≤ x → x < a + n → f x ≡ true) → list_all f (range_with_len a n) ≡ true
all_from f a zero h = refl
all_from f a (suc n) h =
    and_from (f a) (list_all f (range_with_len (a + 1) n)) (h a (omega arith) (omega arith)) (all_from f (a + 1) n (λ x low high. h x (omega arith) (omega arith)))

pub any_at : (f : ℕ → Bool) (a n x : ℕ) → a ≤ x → x < a + n → f x ≡ true → list_any f (range_with_len a n) ≡ true
any_at f a zero x low high e = absurd (omega arith)
any_at f a (suc n) x low high e = elim (cases_lt a x) [
  | inl above ↦ or_right (f a) (list_any f (range_with_len (a + 1) n)) (any_at f (a + 1) n x (omega arith) (omega arith) e)
  | inr here ↦ (let same : x ≡ a = omega arith in or_left (f a) (list_any f (range_with_len (a + 1) n)) (sym (ap f same) ∙ e))
]

pub any_none : (f : ℕ → Bool) (a n : ℕ) → ((x : ℕ) → a ≤ x → x < a + n → f x ≡ false) → list_any f (range_with_len a n) ≡ false
any_none f a zero h = refl
any_none f a (suc n) h =
    or_from (f a) (list_any f (range_with_len (a + 1) n)) (h a (omega arith) (omega arith)) (any_none f (a + 1) n (λ x low high. h x (omega arith) (omega arith)))

some_at : (f : ℕ → Bool) (a n : ℕ) → list_any f (range_with_len a n) ≡ true → (x : ℕ) × (a ≤ x) × (x < a + n) × (f x ≡ true)
some_at f a zero h = absurd (false≢true h)
some_at f a (suc n) h = elim (cases_Bool (f a)) [
  | inl passes ↦ (a, omega arith, omega arith, passes)
  | inr fails ↦
      (let rest = some_at f (a + 1) n (sym (ap (λ (b : Bool). b || list_any f (range_with_len (a + 1) n)) fails) ∙ h) in
      (rest.0, (let low = rest.1 in omega arith), (let high = rest.2 in omega arith), rest.3))
]

-- one list that passes is found
pub bytes_give : (n : ℕ) (test : List ℕ → Bool) (bytes : List ℕ) → length bytes ≡ n → AllByRecursion (λ b. b < 256) bytes → test bytes ≡ true → some_bytes n test ≡ true
unfolding some_bytes
bytes_give zero test [] e fits h = h
bytes_give zero test (b ∷ bytes) e fits h = absurd (omega arith)
bytes_give (suc n) test [] e fits h = absurd (omega arith)
bytes_give (suc n) test (b ∷ bytes) e fits h =
    any_at (λ c. some_bytes n (λ rest. test (c ∷ rest))) 0 256 b (omega arith) (let low = fits.0 in omega arith) (bytes_give n (λ rest. test (b ∷ rest)) bytes (omega arith) fits.1 h)

-- and where one is found it passes
pub bytes_of : (n : ℕ) (test : List ℕ → Bool) → some_bytes n test ≡ true → (bytes : List ℕ) × (length bytes ≡ n) × AllByRecursion (λ b. b < 256) bytes × (test bytes ≡ true)
unfolding some_bytes
bytes_of zero test h = ([], refl, tt, h)
bytes_of (suc n) test h =
    let some = some_at (λ c. some_bytes n (λ rest. test (c ∷ rest))) 0 256 h in
    let rest = bytes_of n (λ rest. test (some.0 ∷ rest)) some.3 in
    (some.0 ∷ rest.0, (let e = rest.1 in omega arith), ((let high = some.2 in omega arith), rest.2), rest.3)

pub byte_at : (bytes : List ℕ) → AllByRecursion (λ b. b < 256) bytes → (i : ℕ) → get_or bytes i 0 < 256
byte_at [] fits i = omega arith
byte_at (b ∷ bytes) fits zero = fits.0
byte_at (b ∷ bytes) fits (suc i) = byte_at bytes fits.1 i

pub values_fit : (x : ℕ → ℕ) → ((t : ℕ) → x t < 256) → (a n : ℕ) → AllByRecursion (λ b. b < 256) (map x (range_with_len a n))
values_fit x h a zero = tt
values_fit x h a (suc n) = (h a, values_fit x h (a + 1) n)
