-- What a sink gains, part by part.
use Rattle.std.proofs.Common.{◌≡◌, ℕ, ◌+◌, List, [], ◌++◌, ◌∷◌, length, take, Option, None, Some, Result, Ok, Err, refl, sym, ap, ◌∙◌, subst, arith, append_assoc, length-append}
use Rattle.std.specs.Io.KnownBytes.{Appends}
use Rattle.std.specs.List.{flat_map}
use Rattle.std.specs.Result.{IsErr}
use Rattle.std.proofs.lemmas.List.{append-nil, take-append-le}
use Rattle.std.proofs.Math.Seq.{take-append-add}
use Rattle.outside.specs.Streams.{AppendsFront, Puts}

pub appends_none : (old : Option (List ℕ)) → Appends old old []
appends_none None = tt
appends_none (Some xs) = sym (append-nil xs)

pub appends_join : (a b c : Option (List ℕ)) (x y : List ℕ) → Appends a b x → Appends b c y → Appends a c (x ++ y)
appends_join None b c x y p q = tt
appends_join (Some xs) None c x y p q = absurd p
appends_join (Some xs) (Some ys) None x y p q = absurd q
appends_join (Some xs) (Some ys) (Some zs) x y p q = q ∙ ap (λ (l : List ℕ). l ++ y) p ∙ append_assoc xs x y

-- a front of a part after a part, and before more
pub front_between : (a b c : Option (List ℕ)) (x y z : List ℕ) → Appends a b x → AppendsFront b c y → AppendsFront a c (x ++ (y ++ z))
front_between a b c x y z p q =
    let few = q.1 in
    let long : length (x ++ (y ++ z)) ≡ length x + (length y + length z) = length-append x (y ++ z) ∙ ap (λ (n : ℕ). length x + n) (length-append y z) in
    let it : take (length x + q.0) (x ++ (y ++ z)) ≡ x ++ take q.0 y = take-append-add x (y ++ z) q.0 ∙ ap (λ (l : List ℕ). x ++ l) (take-append-le q.0 y z q.1) in
    (length x + q.0, omega (arith, long), subst (λ (l : List ℕ). Appends a c l) (sym it) (appends_join a b c x (take q.0 y) p q.2))

-- one part put after another
pub puts_after : {T E : Type 0} (a b c : Option (List ℕ)) (x y : List ℕ) (r : Result T E) → Appends a b x → Puts b c r y → Puts a c r (x ++ y)
puts_after a b c x y (Ok v) p q = appends_join a b c x y p q
puts_after a b c x y (Err e) p q = subst (λ (l : List ℕ). AppendsFront a c (x ++ l)) (append-nil y) (front_between a b c x y [] p q)

-- a part that failed, before more
pub fails_before : (a b : Option (List ℕ)) (y z : List ℕ) → AppendsFront a b y → AppendsFront a b (y ++ z)
fails_before a b y z p = front_between a a b [] y z (appends_none a) p

pub puts_err : {T E : Type 0} (old new : Option (List ℕ)) (all : List ℕ) (result : Result T E) → IsErr result → AppendsFront old new all → Puts old new result all
puts_err old new all (Ok v) is q = absurd (cc)
puts_err old new all (Err e) is q = q

pub flat_more : {A : Type 0} (f : A → List ℕ) (xs : List A) (x : A) → flat_map f (xs ++ x ∷ []) ≡ flat_map f xs ++ f x
flat_more f [] x = append-nil (f x)
flat_more f (y ∷ xs) x = ap (λ (l : List ℕ). f y ++ l) (flat_more f xs x) ∙ sym (append_assoc (f y) (flat_map f xs) (f x))

pub flat_append : {A : Type 0} (f : A → List ℕ) (xs ys : List A) → flat_map f (xs ++ ys) ≡ flat_map f xs ++ flat_map f ys
flat_append f [] ys = refl
flat_append f (x ∷ xs) ys = ap (λ (l : List ℕ). f x ++ l) (flat_append f xs ys) ∙ sym (append_assoc (f x) (flat_map f xs) (flat_map f ys))
