-- Nested walks over lists.
use Rattle.std.proofs.Common.{suc, ◌≡◌, ◌<◌, Bool, List, [], ◌∷◌, ◌++◌, length, map, filter, refl, sym, ap, ap₂, ◌∙◌, arith, append_assoc, Contains}
use Rattle.std.specs.List.{flat_map}
use Rattle.std.proofs.lemmas.List.Elements.{filter-append}
use Rattle.set_product.specs.Pairs.{pairs}

pub map_append : {A B : Type 0} (f : A → B) (us vs : List A) → map f (us ++ vs) ≡ map f us ++ map f vs
map_append f [] vs = refl
map_append {A} {B} f (u ∷ us) vs = ap (λ (l : List B). f u ∷ l) (map_append f us vs)

pub map_map : {A B C : Type 0} (f : B → C) (g : A → B) (xs : List A) → map f (map g xs) ≡ map (λ x. f (g x)) xs
map_map f g [] = refl
map_map {A} {B} {C} f g (x ∷ xs) = ap (λ (l : List C). f (g x) ∷ l) (map_map f g xs)

-- a map over pairs is a nested walk
pub map_pairs : {A B C : Type 0} (g : A × B → C) (xs : List A) (ys : List B) → map g (pairs xs ys) ≡ flat_map (λ x. map (λ y. g (x, y)) ys) xs
unfolding pairs
map_pairs g [] ys = refl
map_pairs {A} {B} {C} g (x ∷ xs) ys =
    map_append g (map (λ y. (x, y)) ys) (pairs xs ys)
    ∙ ap₂ (λ (a b : List C). a ++ b) (map_map g (λ (y : B). let c : A × B = (x, y) in c) ys) (map_pairs g xs ys)

pub flat_append : {A B : Type 0} (f : A → List B) (xs ys : List A) → flat_map f (xs ++ ys) ≡ flat_map f xs ++ flat_map f ys
flat_append f [] ys = refl
flat_append {A} {B} f (x ∷ xs) ys = ap (λ (l : List B). f x ++ l) (flat_append f xs ys) ∙ sym (append_assoc (f x) (flat_map f xs) (flat_map f ys))

pub flat_flat : {A B C : Type 0} (h : B → List C) (g : A → List B) (xs : List A) → flat_map h (flat_map g xs) ≡ flat_map (λ x. flat_map h (g x)) xs
flat_flat h g [] = refl
flat_flat {A} {B} {C} h g (x ∷ xs) = flat_append h (g x) (flat_map g xs) ∙ ap (λ (l : List C). flat_map h (g x) ++ l) (flat_flat h g xs)

pub flat_of_map : {A B C : Type 0} (h : B → List C) (f : A → B) (xs : List A) → flat_map h (map f xs) ≡ flat_map (λ x. h (f x)) xs
flat_of_map h f [] = refl
flat_of_map {A} {B} {C} h f (x ∷ xs) = ap (λ (l : List C). h (f x) ++ l) (flat_of_map h f xs)

pub flat_same : {A B : Type 0} (f g : A → List B) (xs : List A) → ((x : A) → f x ≡ g x) → flat_map f xs ≡ flat_map g xs
flat_same f g [] e = refl
flat_same {A} {B} f g (x ∷ xs) e = ap₂ (λ (a b : List B). a ++ b) (e x) (flat_same f g xs e)

-- where what is kept of each part is a walk over what is kept of another, so it is of all
pub kept_flat : {A B : Type 0} (p : B → Bool) (spread : B → List B) (f g : A → List B) (xs : List A) → ((x : A) → filter p (f x) ≡ flat_map spread (filter p (g x))) →
    filter p (flat_map f xs) ≡ flat_map spread (filter p (flat_map g xs))
kept_flat p spread f g [] e = refl
kept_flat {A} {B} p spread f g (x ∷ xs) e =
    filter-append p (f x) (flat_map f xs)
    ∙ ap₂ (λ (a b : List B). a ++ b) (e x) (kept_flat p spread f g xs e)
    ∙ sym (flat_append spread (filter p (g x)) (filter p (flat_map g xs)))
    ∙ ap (flat_map spread) (sym (filter-append p (g x) (flat_map g xs)))

pub first_held : {A : Type 0} (x : A) (xs : List A) → Contains (x ∷ xs) x
first_held x xs = (0, omega arith, refl)

pub later_held : {A : Type 0} (x y : A) (xs : List A) → Contains xs y → Contains (x ∷ xs) y
later_held x y xs held = (suc held.0, (let below : held.0 < length xs = held.1 in omega arith), held.2)
