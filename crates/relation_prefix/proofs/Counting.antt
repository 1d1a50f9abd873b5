-- Counting over keys that rise.
use Rattle.std.proofs.Common.{ℕ, zero, suc, ◌≡◌, ◌<◌, ◌≤◌, ◌+◌, Bool, true, false, cond, List, [], ◌∷◌, map, length, get_or, ap, ◌∙◌, arith, subst, inl, inr}
use Rattle.std.proofs.lemmas.Bool.{cases_Bool, cases_eq}
use Rattle.std.specs.List.{count_by, range_with_len, AllByRecursion}
use Rattle.std.specs.List.Sorted.{IsStrictlyIncreasing}
use Rattle.raid_layouts.proofs.Counts.{count_cons}

-- the first number is not below this, and each later one is above the one before it
abbrev pub RisesFrom : ℕ → List ℕ → Type 0
RisesFrom a [] = Unit {0}
RisesFrom a (x ∷ xs) = (a ≤ x) × RisesFrom (x + 1) xs

rising_tail : (x : ℕ) (xs : List ℕ) → IsStrictlyIncreasing (x ∷ xs) → IsStrictlyIncreasing xs
rising_tail x xs h = λ k lt.
    let at : suc k + 1 ≡ suc (k + 1) = omega arith in
    subst (λ (j : ℕ). get_or xs k 0 < get_or (x ∷ xs) j 0) at (h (suc k) (omega arith))

pub rises_from : (a : ℕ) (xs : List ℕ) → IsStrictlyIncreasing xs → (1 ≤ length xs → a ≤ get_or xs 0 0) → RisesFrom a xs
rises_from a [] h low = tt
rises_from a (x ∷ xs) h low = (low (omega arith), rises_from (x + 1) xs (rising_tail x xs h) (λ some. let e = h 0 (omega arith) in omega arith))

rises_down : (a b : ℕ) (xs : List ℕ) → RisesFrom b xs → a ≤ b → RisesFrom a xs
rises_down a b [] h le = tt
rises_down a b (x ∷ xs) h le = (let low = h.0 in omega arith, h.1)

count_yes : {A : Type 0} (f : A → Bool) (x : A) (xs : List A) → f x ≡ true → count_by f (x ∷ xs) ≡ 1 + count_by f xs
count_yes f x xs e = count_cons f x xs ∙ ap (λ (b : Bool). cond b 1 0 + count_by f xs) e

count_no : {A : Type 0} (f : A → Bool) (x : A) (xs : List A) → f x ≡ false → count_by f (x ∷ xs) ≡ count_by f xs
count_no f x xs e = count_cons f x xs ∙ ap (λ (b : Bool). cond b 1 0 + count_by f xs) e ∙ (let z : 0 + count_by f xs ≡ count_by f xs = omega arith in z)

count_up : {A : Type 0} (f : A → Bool) (x : A) (xs : List A) → count_by f xs ≤ count_by f (x ∷ xs)
count_up f x xs = let e = count_cons f x xs in omega arith

-- an element that passes has a key below this, which passes
abbrev pub KeysPass : {A : Type 0} → (A → ℕ) → (A → Bool) → (ℕ → Bool) → ℕ → List A → Type 0
KeysPass key f q end xs = AllByRecursion (λ x. f x ≡ true → (key x < end) × (q (key x) ≡ true)) xs

none_pass : {A : Type 0} (key : A → ℕ) (f : A → Bool) (q : ℕ → Bool) (a end : ℕ) (xs : List A) → RisesFrom a (map key xs) → end ≤ a → KeysPass key f q end xs → count_by f xs ≤ 0
none_pass key f q a end [] rises le pass = omega arith
none_pass key f q a end (x ∷ xs) rises le pass =
    let low = rises.0 in
    let rest = none_pass key f q (key x + 1) end xs rises.1 (omega arith) pass.1 in
    elim (cases_Bool (f x)) [
      | inl passes ↦ (let lt = (pass.0 passes).0 in absurd (omega arith))
      | inr fails ↦ (let e = count_no f x xs fails in omega arith)
    ]

-- no more elements pass than numbers do that may be their keys, where keys rise
pub count_keys : {A : Type 0} (key : A → ℕ) (f : A → Bool) (q : ℕ → Bool) (a n end : ℕ) (xs : List A) → end ≡ a + n → RisesFrom a (map key xs) → KeysPass key f q end xs →
    count_by f xs ≤ count_by q (range_with_len a n)
count_keys key f q a zero end xs e rises pass = none_pass key f q a end xs rises (omega arith) pass
count_keys key f q a (suc n) end [] e rises pass = omega arith
count_keys key f q a (suc n) end (x ∷ xs) e rises pass =
    elim (cases_eq a (key x)) [
      | inl here ↦
          (let rest : count_by f xs ≤ count_by q (range_with_len (a + 1) n)
          = count_keys key f q (a + 1) n end xs (omega arith) (rises_down (a + 1) (key x + 1) (map key xs) rises.1 (omega arith)) pass.1 in
          elim (cases_Bool (f x)) [
            | inl passes ↦
                (let one = count_yes f x xs passes in
                let two = count_yes q a (range_with_len (a + 1) n) (ap q here ∙ (pass.0 passes).1) in
                omega arith)
            | inr fails ↦ (let one = count_no f x xs fails in let two = count_up q a (range_with_len (a + 1) n) in omega arith)
          ])
      | inr later ↦
          (let low = rises.0 in
          let rest : count_by f (x ∷ xs) ≤ count_by q (range_with_len (a + 1) n)
          = count_keys key f q (a + 1) n end (x ∷ xs) (omega arith) (omega arith, rises.1) pass in
          let up = count_up q a (range_with_len (a + 1) n) in
          omega arith)
    ]
