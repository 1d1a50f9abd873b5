-- What holds of each element of a list, where one is set and where one is appended.
use Rattle.std.proofs.Common.{◌≡◌, ◌≢◌, ℕ, ◌+◌, ◌<◌, List, [], ◌∷◌, ◌++◌, length, get_or, set, ap, sym, subst, ◌∙◌, arith, inl, inr, get_or-set_other, get_or-set_same, length-append}
use Rattle.std.proofs.Math.Seq.{get_or-append_seam}
use Rattle.std.proofs.lemmas.Bool.{cases_eq}
use Rattle.std.proofs.lemmas.List.{get_or_append_left}

-- what holds of each element below a number, where one is set
pub each_set : {X : Type 0} (P : ℕ → X → Type 0) (xs : List X) (n at : ℕ) (x d : X) → at < length xs → P at x →
    ((i : ℕ) → i < n → i ≢ at → P i (get_or xs i d)) → (i : ℕ) → i < n → P i (get_or (set xs at x) i d)
each_set {X} P xs n at x d within here others i lt = elim (cases_eq at i) [
  | inl e ↦ subst (λ (k : ℕ). P k (get_or (set xs at x) k d)) e (rw get_or-set_same here)
  | inr ne ↦ let other : i ≢ at = λ f. ne (sym f) in rw get_or-set_other (others i lt other)
]

-- what holds of each element of a list, where one is appended
pub each_pushed : {X : Type 0} (P : ℕ → X → Type 0) (xs new : List X) (n : ℕ) (x d : X) → new ≡ xs ++ x ∷ [] → length xs ≡ n →
    ((i : ℕ) → i < n → P i (get_or xs i d)) → P n x → (i : ℕ) → i < n + 1 → P i (get_or new i d)
each_pushed {X} P xs new n x d grown long before here i lt = elim (cases_eq n i) [
  | inl e ↦
      let last : get_or new i d ≡ x = ap (λ (l : List X). get_or l i d) grown ∙ ap (λ (k : ℕ). get_or (xs ++ x ∷ []) k d) (sym (long ∙ e)) ∙ get_or-append_seam xs x [] d in
      subst (P i) (sym last) (subst (λ (k : ℕ). P k x) e here)
  | inr ne ↦
      let low : get_or new i d ≡ get_or xs i d = ap (λ (l : List X). get_or l i d) grown ∙ get_or_append_left xs (x ∷ []) d i (omega arith) in
      subst (P i) (sym low) (before i (omega arith))
]

pub length_pushed : {X : Type 0} (xs new : List X) (n : ℕ) (x : X) → new ≡ xs ++ x ∷ [] → length xs ≡ n → length new ≡ n + 1
length_pushed xs new n x grown long = ap length grown ∙ length-append xs (x ∷ []) ∙ ap (λ (k : ℕ). k + 1) long
