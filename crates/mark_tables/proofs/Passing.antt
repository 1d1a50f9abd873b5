-- Tests of the elements of lists.
use Rattle.std.proofs.Common.{◌≡◌, List, [], ◌∷◌, cond, ap₂, refl, Bool, true, false, ◌&&◌, ◌||◌, Some}
use Rattle.std.proofs.lemmas.Bool.{and_parts}
use Rattle.std.specs.List.{find, list_all, list_any}
use Rattle.std.specs.Option.{is_some}

pub true_and : (a b : Bool) → a ≡ true → b ≡ true → (a && b) ≡ true
true_and true b e f = f
true_and false b e f = (cc)

pub found_if : {A : Type 0} (p : A → Bool) (xs : List A) → is_some (find p xs) ≡ list_any p xs
found_if p [] = refl
found_if p (x ∷ xs) = here (p x) (found_if p xs)
  where
    here : (b : Bool) → is_some (find p xs) ≡ list_any p xs → is_some (cond b (Some x) (find p xs)) ≡ (b || list_any p xs)
    here true e = refl
    here false e = e

any_step : (a b c d : Bool) → (a ≡ true → c ≡ true) → (b ≡ true → d ≡ true) → (a || b) ≡ true → (c || d) ≡ true
any_step a b true d f g e = refl
any_step true b false d f g e = let bad : false ≡ true = f refl in (cc)
any_step false b false d f g e = g e

pub any_more : {A : Type 0} (p q : A → Bool) (xs : List A) → ((x : A) → p x ≡ true → q x ≡ true) → list_any p xs ≡ true → list_any q xs ≡ true
any_more p q [] more e = e
any_more p q (x ∷ xs) more e = any_step (p x) (list_any p xs) (q x) (list_any q xs) (more x) (any_more p q xs more) e

pub any_same : {A : Type 0} (p q : A → Bool) (xs : List A) → ((x : A) → p x ≡ q x) → list_any p xs ≡ list_any q xs
any_same p q [] same = refl
any_same p q (x ∷ xs) same = ap₂ (λ (a b : Bool). a || b) (same x) (any_same p q xs same)

pub all_more : {A : Type 0} (p q : A → Bool) (xs : List A) → ((x : A) → p x ≡ true → q x ≡ true) → list_all p xs ≡ true → list_all q xs ≡ true
all_more p q [] more e = e
all_more p q (x ∷ xs) more e =
    let parts = and_parts (p x) (list_all p xs) e in
    true_and (q x) (list_all q xs) (more x parts.0) (all_more p q xs more parts.1)

pub all_same : {A : Type 0} (p q : A → Bool) (xs : List A) → ((x : A) → p x ≡ q x) → list_all p xs ≡ list_all q xs
all_same p q [] same = refl
all_same p q (x ∷ xs) same = ap₂ (λ (a b : Bool). a && b) (same x) (all_same p q xs same)
