-- Lists in which each element is found first at its own place: no element stands twice.
use Rattle.std.proofs.Common.{rules, ℕ, zero, suc, ◌≡◌, ◌<◌, ◌+◌, ◌-◌, ◌*◌, ◌/◌, ◌%◌, Bool, true, false, ◌&&◌, ◌==◌, cond, List, [], ◌∷◌, length, map, filter, refl, sym, ap, ap₂, ◌∙◌, subst, arith, Option, Some, None, slice_get, get_or, option_map, inl, inr}
use Rattle.std.specs.List.{flat_map, position, slice_index, AllByRecursion}
use Rattle.std.specs.List.Sorted.{IsStrictlyIncreasing}
use Rattle.std.proofs.lemmas.Bool.{cases_lt, eq-eqb, ne_eqb}
use Rattle.std.proofs.lemmas.Nat.{div-add-mod'}
use Rattle.std.proofs.lemmas.Option.{slice_get_within, slice_get-get_or}
use Rattle.slot_math.proofs.Listed.{each_flat, each_get, each_kept, each_more}
use Rattle.slot_math.proofs.Nested.{get_low, get_high}
use Rattle.set_product.specs.Pairs.{pairs, joined}
use Rattle.set_product.proofs.Pairs.{column_within, length_pairs, or_later, pair_found, position_append, position_map, position_pairs, position_step, row_within}

-- the first element that is the same as the one at a place is that one
abbrev pub Ranked : {A : Type 0} → (A → A → Bool) → List A → Type 0
Ranked {A} t xs = (i : ℕ) (x : A) → slice_get xs i ≡ Some x → position (t x) xs ≡ Some i

some_same : {A : Type 0} (x y : A) → (let l : Option A = Some x in let r : Option A = Some y in l ≡ r) → x ≡ y
some_same {A} x y e = search rules

pair_from : {A B : Type 0} (xs : List A) (ys : List B) (i : ℕ) (c : A × B) → slice_get (pairs xs ys) i ≡ Some c →
    (slice_get xs (i / length ys) ≡ Some c.0) × (slice_get ys (i % length ys) ≡ Some c.1)
pair_from {A} {B} xs ys i c e =
    let within : i < length xs * length ys = (let w = slice_get_within (pairs xs ys) i c e in let long = length_pairs xs ys in omega arith) in
    let first = slice_get-get_or xs (i / length ys) c.0 (row_within i (length xs) (length ys) within) in
    let second = slice_get-get_or ys (i % length ys) c.1 (column_within i (length xs) (length ys) within) in
    let there : A × B = (get_or xs (i / length ys) c.0, get_or ys (i % length ys) c.1) in
    let same : there ≡ c = some_same there c (sym (pair_found xs ys i (get_or xs (i / length ys) c.0) (get_or ys (i % length ys) c.1) first second) ∙ e) in
    (first ∙ ap (λ (p : A × B). Some p.0) same, second ∙ ap (λ (p : A × B). Some p.1) same)

pub ranked_pairs : {A B : Type 0} (t : A → A → Bool) (u : B → B → Bool) (xs : List A) (ys : List B) → Ranked t xs → Ranked u ys → Ranked (λ c d. t c.0 d.0 && u c.1 d.1) (pairs xs ys)
ranked_pairs t u xs ys rt ru i c e =
    let parts = pair_from xs ys i c e in
    position_pairs (t c.0) (u c.1) xs ys
    ∙ ap₂ (joined (length ys)) (rt (i / length ys) c.0 parts.0) (ru (i % length ys) c.1 parts.1)
    ∙ ap (λ (n : ℕ). Some n) (div-add-mod' i (length ys))

map_from : {A B : Type 0} (f : A → B) (xs : List A) (i : ℕ) (y : B) → slice_get (map f xs) i ≡ Some y → (x : A) × (slice_get xs i ≡ Some x) × (f x ≡ y)
map_from f [] i y e = absurd (search rules)
map_from f (x ∷ xs) zero y e = (x, refl, some_same (f x) y e)
map_from f (x ∷ xs) (suc i) y e = map_from f xs i y e

pub ranked_map : {A B : Type 0} (t : B → B → Bool) (f : A → B) (xs : List A) → Ranked (λ a b. t (f a) (f b)) xs → Ranked t (map f xs)
ranked_map {A} {B} t f xs r i y e =
    let found = map_from f xs i y e in
    position_map (t y) f xs
    ∙ ap (λ (z : B). position (λ x. t z (f x)) xs) (sym found.2)
    ∙ r i found.0 found.1

-- the keys of a list differ
unfoldable pub KeysDiffer : {A : Type 0} → (A → ℕ) → List A → Type 0
KeysDiffer f [] = Unit {0}
KeysDiffer f (x ∷ xs) = AllByRecursion (λ y. f x < f y) xs × KeysDiffer f xs

pub keys_of_rising : {A : Type 0} (f : A → ℕ) (xs : List A) → IsStrictlyIncreasing (map f xs) → KeysDiffer f xs
unfolding KeysDiffer
keys_of_rising f [] e = tt
keys_of_rising f (x ∷ []) e = (tt, tt)
keys_of_rising {A} f (x ∷ y ∷ ys) e =
    let rest = keys_of_rising f (y ∷ ys) (later e) in
    let first : f x < f y = e 0 (omega arith) in
    ((first, each_more (λ z. f y < f z) (λ z. f x < f z) ys (λ z more. omega arith) rest.0), rest)
  where
    later : IsStrictlyIncreasing (f x ∷ f y ∷ map f ys) → IsStrictlyIncreasing (f y ∷ map f ys)
    later up k lt =
        let next : suc k + 1 ≡ suc (k + 1) = omega arith in
        let P : ℕ → Type 0 = λ n. slice_index (f y ∷ map f ys) k < slice_index (f x ∷ f y ∷ map f ys) n in
        subst P next (up (suc k) (omega arith))

pub keys_of_kept : {A : Type 0} (f : A → ℕ) (p : A → Bool) (xs : List A) → KeysDiffer f xs → KeysDiffer f (filter p xs)
unfolding KeysDiffer
keys_of_kept f p [] k = tt
keys_of_kept {A} f p (x ∷ xs) k = elim (p x) as (λ b. KeysDiffer f (cond b (x ∷ filter p xs) (filter p xs))) [
  | true ↦ (each_more (λ y. (f x < f y) × (p y ≡ true)) (λ y. f x < f y) (filter p xs) (λ y h. h.0) (each_kept (λ y. f x < f y) p xs k.0), keys_of_kept f p xs k.1)
  | false ↦ keys_of_kept f p xs k.1
]

pub ranked_keys : {A : Type 0} (f : A → ℕ) (xs : List A) → KeysDiffer f xs → Ranked (λ a b. f a == f b) xs
unfolding KeysDiffer
ranked_keys f [] k i x e = absurd (search rules)
ranked_keys {A} f (y ∷ xs) k zero x e =
    let same : y ≡ x = some_same y x e in
    position_step (λ b. f x == f b) y xs
    ∙ ap (λ (b : Bool). cond b (Some 0) (option_map (λ n. suc n) (position (λ z. f x == f z) xs))) (eq-eqb (f x) (f y) (ap f (sym same)))
ranked_keys {A} f (y ∷ xs) k (suc i) x e =
    let more : f y < f x = each_get (λ z. f y < f z) xs i x k.0 e in
    position_step (λ b. f x == f b) y xs
    ∙ ap₂ (λ (b : Bool) (o : Option ℕ). cond b (Some 0) (option_map (λ n. suc n) o)) (ne_eqb (f x) (f y) (λ same. omega arith)) (ranked_keys f xs k.1 i x e)

-- of a list, what is known of its rest
apart_first : {A : Type 0} (t : A → A → Bool) (x : A) (xs : List A) (k : ℕ) (y : A) → Ranked t (x ∷ xs) → slice_get xs k ≡ Some y → (t y x ≡ false) × (position (t y) xs ≡ Some k)
apart_first {A} t x xs k y r e = split (t y x) (position (t y) xs) (sym (position_step (t y) x xs) ∙ r (suc k) y e)
  where
    split : (b : Bool) (o : Option ℕ) → cond b (Some 0) (option_map (λ n. suc n) o) ≡ Some (suc k) → (b ≡ false) × (o ≡ Some k)
    split true o h = absurd (let no : 0 ≡ suc k = some_same 0 (suc k) h in omega arith)
    split false None h = absurd (search rules)
    split false (Some n) h = (refl, (let same : suc n ≡ suc k = some_same (suc n) (suc k) h in ap (λ (m : ℕ). Some m) (let e : n ≡ k = omega arith in e)))

-- the first element of a list is the same as itself
own_first : {A : Type 0} (t : A → A → Bool) (x : A) (xs : List A) → Ranked t (x ∷ xs) → t x x ≡ true
own_first {A} t x xs r = first (t x x) (position (t x) xs) (sym (position_step (t x) x xs) ∙ r 0 x refl)
  where
    first : (b : Bool) (o : Option ℕ) → cond b (Some 0) (option_map (λ n. suc n) o) ≡ Some 0 → b ≡ true
    first true o h = refl
    first false None h = absurd (search rules)
    first false (Some n) h = absurd (let no : suc n ≡ 0 = some_same (suc n) 0 h in omega arith)

pub each_of : {A : Type 0} (P : A → Type 0) (xs : List A) → ((k : ℕ) (x : A) → slice_get xs k ≡ Some x → P x) → AllByRecursion P xs
each_of P [] h = tt
each_of P (x ∷ xs) h = (h 0 x refl, each_of P xs (λ k y e. h (suc k) y e))

joins_apart : {A : Type 0} (t : A → A → Bool) (x : A) (xs : List A) → t x x ≡ true → AllByRecursion (λ y. t y x ≡ false) xs → Ranked t xs → Ranked t (x ∷ xs)
joins_apart {A} t x xs own apart r zero y e =
    let same : x ≡ y = some_same x y e in
    position_step (t y) x xs ∙ ap (λ (b : Bool). cond b (Some 0) (option_map (λ n. suc n) (position (t y) xs))) (ap (λ (z : A). t z x) (sym same) ∙ own)
joins_apart {A} t x xs own apart r (suc i) y e =
    position_step (t y) x xs ∙ ap₂ (λ (b : Bool) (o : Option ℕ). cond b (Some 0) (option_map (λ n. suc n) o)) (each_get (λ z. t z x ≡ false) xs i y apart e) (r i y e)

-- what is kept stands once
pub ranked_kept : {A : Type 0} (t : A → A → Bool) (p : A → Bool) (xs : List A) → Ranked t xs → Ranked t (filter p xs)
ranked_kept t p [] r = λ i y e. absurd (let no : slice_get [] i ≡ Some y = e in search rules)
ranked_kept {A} t p (x ∷ xs) r =
    let rest = ranked_kept t p xs (λ k y at. (apart_first t x xs k y r at).1) in
    let apart = each_of (λ y. t y x ≡ false) xs (λ k y at. (apart_first t x xs k y r at).0) in
    elim (p x) as (λ b. Ranked t (cond b (x ∷ filter p xs) (filter p xs))) [
      | true ↦ joins_apart t x (filter p xs) (own_first t x xs r)
          (each_more (λ y. (t y x ≡ false) × (p y ≡ true)) (λ y. t y x ≡ false) (filter p xs) (λ y both. both.0) (each_kept (λ y. t y x ≡ false) p xs apart)) rest
      | false ↦ rest
    ]

-- lists one after the other, where an element of one stands in no other
pub ranked_flat : {S A : Type 0} (t : A → A → Bool) (u : S → S → Bool) (f : S → List A) (ss : List S) → Ranked u ss → AllByRecursion (λ s. Ranked t (f s)) ss →
    AllByRecursion (λ s. (o : S) → u o s ≡ false → AllByRecursion (λ x. position (t x) (f s) ≡ None) (f o)) ss → Ranked t (flat_map f ss)
ranked_flat t u f [] ru rs apart i x e = absurd (search rules)
ranked_flat {S} {A} t u f (s ∷ ss) ru rs apart i x e = elim (cases_lt i (length (f s))) [
  | inl here ↦ (let own = rs.0 i x (sym (get_low (f s) (flat_map f ss) i here) ∙ e) in
      position_append (t x) (f s) (flat_map f ss) ∙ ap (λ (o : Option ℕ). or_later o (length (f s)) (position (t x) (flat_map f ss))) own)
  | inr there ↦ (
      let found : slice_get (flat_map f ss) (i - length (f s)) ≡ Some x = sym (get_high (f s) (flat_map f ss) i there) ∙ e in
      let none = each_get (λ y. position (t y) (f s) ≡ None) (flat_map f ss) (i - length (f s)) x
      (each_flat (λ y. position (t y) (f s) ≡ None) (λ o. u o s ≡ false) f ss (λ o other. apart.0 o other) (each_of (λ o. u o s ≡ false) ss (λ k o at. (apart_first u s ss k o ru at).0))) found in
      let later = ranked_flat t u f ss (λ k o at. (apart_first u s ss k o ru at).1) rs.1 apart.1 (i - length (f s)) x found in
      position_append (t x) (f s) (flat_map f ss)
      ∙ ap₂ (λ (o q : Option ℕ). or_later o (length (f s)) q) none later
      ∙ ap (λ (n : ℕ). Some n) (let sum : length (f s) + (i - length (f s)) ≡ i = omega arith in sum))
]
