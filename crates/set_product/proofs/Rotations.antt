-- The pairs of a pattern and a delay of a plan, one after another.
use Rattle.std.proofs.Common.{ℕ, ◌≡◌, ◌<◌, ◌≤◌, ◌+◌, ◌*◌, Bool, true, false, cond, List, [], ◌∷◌, ◌++◌, length, filter, take, sym, ap, ◌∙◌, arith, add-one, append-nil, Some, slice_get}
use Rattle.std.proofs.lemmas.List.Elements.{filter-append}
use Rattle.std.proofs.lemmas.Nat.{mul-le}
use Rattle.raid_params.specs.declared.limits.TheConstants.{MOST_DELAYS, MOST_PATTERNS}
use Rattle.set_product.proofs.Walks.{take_next}

pub few_rotations : (patterns delays : ℕ) → patterns ≤ MOST_PATTERNS → delays ≤ MOST_DELAYS → patterns * delays ≤ MOST_PATTERNS * MOST_DELAYS
few_rotations patterns delays a b = mul-le patterns delays MOST_PATTERNS MOST_DELAYS a b

-- what is kept of one element more
kept_next : {A : Type 0} (p : A → Bool) (xs : List A) (at : ℕ) (x : A) → slice_get xs at ≡ Some x → filter p (take (at + 1) xs) ≡ filter p (take at xs) ++ cond (p x) (x ∷ []) []
kept_next {A} p xs at x e =
    ap (λ (n : ℕ). filter p (take n xs)) (add-one at)
    ∙ ap (filter p) (take_next xs at x e)
    ∙ filter-append p (take at xs) (x ∷ [])

pub kept_one : {A : Type 0} (p : A → Bool) (xs : List A) (at : ℕ) (x : A) → slice_get xs at ≡ Some x → p x ≡ true → filter p (take (at + 1) xs) ≡ filter p (take at xs) ++ x ∷ []
kept_one {A} p xs at x e keeps = kept_next p xs at x e ∙ ap (λ (b : Bool). filter p (take at xs) ++ cond b (x ∷ []) []) keeps

pub kept_none : {A : Type 0} (p : A → Bool) (xs : List A) (at : ℕ) (x : A) → slice_get xs at ≡ Some x → p x ≡ false → filter p (take (at + 1) xs) ≡ filter p (take at xs)
kept_none {A} p xs at x e not = kept_next p xs at x e ∙ ap (λ (b : Bool). filter p (take at xs) ++ cond b (x ∷ []) []) not ∙ append-nil (filter p (take at xs))
