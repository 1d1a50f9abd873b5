-- Filters of nested lists, by their first element.
use Rattle.std.proofs.Common.{ℕ, ◌≡◌, ◌<◌, ◌≤◌, ◌-◌, List, [], ◌∷◌, ◌++◌, length, map, filter, refl, sym, ap, ap₂, ◌∙◌, arith, zero, suc, Bool, true, false, cond, slice_get, option_map}
use Rattle.std.specs.List.{flat_map}
use Rattle.std.proofs.lemmas.List.Elements.{filter-append}
use Rattle.slot_math.proofs.Sums.{passing, length-filter}

filter-map : {A B : Type 0} (f : B → Bool) (g : A → B) (xs : List A) → filter f (map g xs) ≡ map g (filter (λ x. f (g x)) xs)
filter-map f g [] = refl
filter-map {A} {B} f g (x ∷ xs) =
    elim (f (g x)) as (λ t. cond t (g x ∷ filter f (map g xs)) (filter f (map g xs)) ≡ map g (cond t (x ∷ filter (λ y. f (g y)) xs) (filter (λ y. f (g y)) xs))) [
      | true ↦ ap (λ (t : List B). g x ∷ t) (filter-map f g xs)
      | false ↦ filter-map f g xs
    ]

-- what is kept, by what stands in the first place
pub filter-flat : {A : Type 0} (f : List A → Bool) (ls : List (List A)) (ps : List A) →
    filter f (flat_map (λ p. map (λ l. p ∷ l) ls) ps) ≡ flat_map (λ p. map (λ l. p ∷ l) (filter (λ l. f (p ∷ l)) ls)) ps
filter-flat f ls [] = refl
filter-flat {A} f ls (p ∷ ps) =
    filter-append f (map (λ l. p ∷ l) ls) (flat_map (λ q. map (λ l. q ∷ l) ls) ps)
    ∙ ap₂ (λ (x y : List (List A)). x ++ y) (filter-map f (λ l. p ∷ l) ls) (filter-flat f ls ps)

-- an element of joined lists
pub get_low : {A : Type 0} (xs ys : List A) (r : ℕ) → r < length xs → slice_get (xs ++ ys) r ≡ slice_get xs r
get_low [] ys r h = absurd (omega arith)
get_low (x ∷ xs) ys zero h = refl
get_low (x ∷ xs) ys (suc r) h = get_low xs ys r (omega arith)

pub get_high : {A : Type 0} (xs ys : List A) (r : ℕ) → length xs ≤ r → slice_get (xs ++ ys) r ≡ slice_get ys (r - length xs)
get_high [] ys r h = ap (slice_get ys) (let e : r ≡ r - 0 = omega arith in e)
get_high (x ∷ xs) ys zero h = absurd (omega arith)
get_high (x ∷ xs) ys (suc r) h = get_high xs ys r (omega arith) ∙ ap (slice_get ys) (let e : r - length xs ≡ suc r - suc (length xs) = omega arith in e)

pub get-map : {A B : Type 0} (g : A → B) (xs : List A) (r : ℕ) → slice_get (map g xs) r ≡ option_map g (slice_get xs r)
get-map g [] r = refl
get-map g (x ∷ xs) zero = refl
get-map g (x ∷ xs) (suc r) = get-map g xs r

pub length-map : {A B : Type 0} (g : A → B) (xs : List A) → length (map g xs) ≡ length xs
length-map g [] = refl
length-map g (x ∷ xs) = ap suc (length-map g xs)

-- a rank below the number of lists that begin with p is one of those lists
pub begins_here : {A : Type 0} (f : List A → Bool) (ls : List (List A)) (p : A) (ps : List A) (r : ℕ) → r < passing (λ l. f (p ∷ l)) ls →
    slice_get (filter f (flat_map (λ q. map (λ l. q ∷ l) ls) (p ∷ ps))) r ≡ option_map (λ l. p ∷ l) (slice_get (filter (λ l. f (p ∷ l)) ls) r)
begins_here {A} f ls p ps r h =
    let here = filter (λ l. f (p ∷ l)) ls in
    let n : length (map (λ l. p ∷ l) (filter (λ l. f (p ∷ l)) ls)) ≡ passing (λ l. f (p ∷ l)) ls = length-map (λ l. p ∷ l) here ∙ length-filter (λ l. f (p ∷ l)) ls in
    ap (λ (t : List (List A)). slice_get t r) (filter-flat f ls (p ∷ ps))
    ∙ get_low (map (λ l. p ∷ l) here) (flat_map (λ q. map (λ l. q ∷ l) (filter (λ l. f (q ∷ l)) ls)) ps) r (omega arith)
    ∙ get-map (λ l. p ∷ l) here r

-- a larger one is looked for among the rest, without those
pub begins_later : {A : Type 0} (f : List A → Bool) (ls : List (List A)) (p : A) (ps : List A) (r : ℕ) → passing (λ l. f (p ∷ l)) ls ≤ r →
    slice_get (filter f (flat_map (λ q. map (λ l. q ∷ l) ls) (p ∷ ps))) r ≡ slice_get (filter f (flat_map (λ q. map (λ l. q ∷ l) ls) ps)) (r - passing (λ l. f (p ∷ l)) ls)
begins_later {A} f ls p ps r h =
    let here = filter (λ l. f (p ∷ l)) ls in
    let n : length (map (λ l. p ∷ l) (filter (λ l. f (p ∷ l)) ls)) ≡ passing (λ l. f (p ∷ l)) ls = length-map (λ l. p ∷ l) here ∙ length-filter (λ l. f (p ∷ l)) ls in
    let rest = flat_map (λ q. map (λ l. q ∷ l) (filter (λ l. f (q ∷ l)) ls)) ps in
    ap (λ (t : List (List A)). slice_get t r) (filter-flat f ls (p ∷ ps))
    ∙ get_high (map (λ l. p ∷ l) here) rest r (omega arith)
    ∙ ap (λ (k : ℕ). slice_get rest (r - k)) n
    ∙ ap (λ (t : List (List A)). slice_get t (r - passing (λ l. f (p ∷ l)) ls)) (sym (filter-flat f ls ps))
