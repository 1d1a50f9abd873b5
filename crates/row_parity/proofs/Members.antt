-- Elements of lists that are made by other lists.
use Rattle.std.proofs.Common.{ℕ, zero, suc, ◌≡◌, ◌+◌, ◌<◌, ◌≤◌, ◌⊎◌, inl, inr, Bool, true, false, ◌||◌, List, [], ◌∷◌, ◌++◌, length, get_or, map, refl, sym, ap, ◌∙◌, arith, subst}
use Rattle.std.specs.List.{flat_map, list_any, range_with_len, Contains}
use Rattle.std.proofs.lemmas.Bool.{or_cases, cases_lt, false≢true}

-- x is an element of xs
abbrev pub In : {X : Type 0} → List X → X → Type 0
In [] x = ⊥
In (y ∷ ys) x = (y ≡ x) ⊎ In ys x

pub In-left : {X : Type 0} (xs ys : List X) (x : X) → In xs x → In (xs ++ ys) x
In-left [] ys x i = absurd i
In-left (z ∷ zs) ys x (inl e) = inl e
In-left (z ∷ zs) ys x (inr i) = inr (In-left zs ys x i)

pub In-right : {X : Type 0} (xs ys : List X) (x : X) → In ys x → In (xs ++ ys) x
In-right [] ys x i = i
In-right (z ∷ zs) ys x i = inr (In-right zs ys x i)

pub In-parts : {X : Type 0} (xs ys : List X) (x : X) → In (xs ++ ys) x → In xs x ⊎ In ys x
In-parts [] ys x i = inr i
In-parts (z ∷ zs) ys x (inl e) = inl (inl e)
In-parts (z ∷ zs) ys x (inr i) = elim (In-parts zs ys x i) [ inl j ↦ inl (inr j) | inr j ↦ inr j ]

pub In-map : {X Y : Type 0} (f : X → Y) (xs : List X) (x : X) → In xs x → In (map f xs) (f x)
In-map f [] x i = absurd i
In-map f (z ∷ zs) x (inl e) = inl (ap f e)
In-map f (z ∷ zs) x (inr i) = inr (In-map f zs x i)

pub from-map : {X Y : Type 0} (f : X → Y) (xs : List X) (y : Y) → In (map f xs) y → (x : X) × In xs x × (f x ≡ y)
from-map f [] y i = absurd i
from-map f (z ∷ zs) y (inl e) = (z, inl refl, e)
from-map f (z ∷ zs) y (inr i) = let r = from-map f zs y i in (r.0, inr r.1, r.2)

pub In-flat_map : {X Y : Type 0} (f : X → List Y) (xs : List X) (x : X) (y : Y) → In xs x → In (f x) y → In (flat_map f xs) y
In-flat_map f [] x y i j = absurd i
In-flat_map f (z ∷ zs) x y (inl e) j = In-left (f z) (flat_map f zs) y (subst (λ w. In (f w) y) (sym e) j)
In-flat_map f (z ∷ zs) x y (inr i) j = In-right (f z) (flat_map f zs) y (In-flat_map f zs x y i j)

pub from-flat_map : {X Y : Type 0} (f : X → List Y) (xs : List X) (y : Y) → In (flat_map f xs) y → (x : X) × In xs x × In (f x) y
from-flat_map f [] y i = absurd i
from-flat_map f (z ∷ zs) y i = elim (In-parts (f z) (flat_map f zs) y i) [
  | inl j ↦ (z, inl refl, j)
  | inr j ↦ (let r = from-flat_map f zs y j in (r.0, inr r.1, r.2))
]

pub In-range : (a n x : ℕ) → a ≤ x → x < a + n → In (range_with_len a n) x
In-range a zero x low high = absurd (omega arith)
In-range a (suc n) x low high = elim (cases_lt a x) [
  | inl above ↦ inr (In-range (a + 1) n x (omega arith) (omega arith))
  | inr below ↦ inl (omega arith)
]

pub from-range : (a n x : ℕ) → In (range_with_len a n) x → x < a + n
from-range a zero x i = absurd i
from-range a (suc n) x (inl e) = omega arith
from-range a (suc n) x (inr i) = let h = from-range (a + 1) n x i in omega arith

-- a test that some element passes
pub any_passes : {X : Type 0} (p : X → Bool) (xs : List X) (x : X) → In xs x → p x ≡ true → list_any p xs ≡ true
any_passes p [] x i e = absurd i
any_passes p (z ∷ zs) x (inl same) e = ap (λ b. b || list_any p zs) (ap p same ∙ e)
any_passes p (z ∷ zs) x (inr i) e = rw (any_passes p zs x i e) (or_true (p z))
  where
    or_true : (b : Bool) → (b || true) ≡ true
    or_true true = refl
    or_true false = refl

pub passing : {X : Type 0} (p : X → Bool) (xs : List X) → list_any p xs ≡ true → (x : X) × In xs x × (p x ≡ true)
passing p [] e = absurd (false≢true e)
passing p (z ∷ zs) e = elim (or_cases (p z) (list_any p zs) e) [
  | inl here ↦ (z, inl refl, here)
  | inr later ↦ (let r = passing p zs later in (r.0, inr r.1, r.2))
]

-- the same by places
pub Contains-from_In : {X : Type 0} (xs : List X) (x : X) → In xs x → Contains xs x
Contains-from_In [] x i = absurd i
Contains-from_In (y ∷ ys) x (inl e) = (0, omega arith, e)
Contains-from_In (y ∷ ys) x (inr i) = let r = Contains-from_In ys x i in let h = r.1 in (suc r.0, omega arith, r.2)

at_place : {X : Type 0} (xs : List X) (x : X) (k : ℕ) → k < length xs → get_or xs k x ≡ x → In xs x
at_place [] x k h e = absurd (omega arith)
at_place (y ∷ ys) x zero h e = inl e
at_place (y ∷ ys) x (suc k) h e = inr (at_place ys x k (omega arith) e)

pub In-from_Contains : {X : Type 0} (xs : List X) (x : X) → Contains xs x → In xs x
In-from_Contains xs x c = at_place xs x c.0 c.1 c.2
