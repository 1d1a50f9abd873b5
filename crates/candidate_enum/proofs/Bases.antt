-- Where the lists that begin with a prefix stand.
use Rattle.std.proofs.Common.{rules, ℕ, ◌≡◌, ◌<◌, ◌≤◌, ◌+◌, ◌-◌, List, [], ◌∷◌, ◌++◌, length, reverse, refl, sym, ap, ap₂, ◌∙◌, arith, zero, suc, Bool, true, ◌&&◌, Option, Some, None, option_map, slice_get, get_or, subst, inl, inr, length-append}
use Rattle.std.proofs.lemmas.Bool.{cases_lt, and_parts, eqb-true, eq-eqb}
use Rattle.std.proofs.lemmas.List.{reverse-append}
use Rattle.std.proofs.lemmas.Option.{slice_get-get_or, slice_get_within}
use Rattle.slot_math.specs.Space.{lists_of, begins, same_place}
use Rattle.slot_math.specs.Ways.{ends, before, images_before, AllImages, IsPlace}
use Rattle.slot_math.specs.declared.space.Space.{Space}
use Rattle.slot_math.proofs.Blocks.{StandsFrom, first_block, next_block}
use Rattle.slot_math.proofs.Fronts.{ends_of_nothing}
use Rattle.slot_math.proofs.Steps.{all_ends}
use Rattle.candidate_enum.specs.Left.{base_back, base_of}

-- lists turned round
turned_cons : {A : Type 0} (x : A) (xs : List A) → reverse (x ∷ xs) ≡ reverse xs ++ x ∷ []
turned_cons x xs = reverse-append (x ∷ []) xs

pub turned_more : {A : Type 0} (p : List A) (x : A) → reverse (p ++ x ∷ []) ≡ x ∷ reverse p
turned_more p x = reverse-append p (x ∷ [])

pub turned_twice : {A : Type 0} (xs : List A) → reverse (reverse xs) ≡ xs
turned_twice [] = refl
turned_twice {A} (x ∷ xs) = ap reverse (turned_cons x xs) ∙ turned_more (reverse xs) x ∙ ap (λ (t : List A). x ∷ t) (turned_twice xs)

turned_length : {A : Type 0} (xs : List A) → length (reverse xs) ≡ length xs
turned_length [] = refl
turned_length (x ∷ xs) = ap length (turned_cons x xs) ∙ length-append (reverse xs) (x ∷ []) ∙ (let e : length (reverse xs) ≡ length xs = turned_length xs in omega arith)

-- the base of one place more
pub base_more : (s : Space) (p : List (Option ℕ)) (x : Option ℕ) → base_of s (p ++ x ∷ []) ≡ base_of s p + before s p x
unfolding base_back
base_more s p x = ap (base_back s) (turned_more p x) ∙ ap (λ (t : List (Option ℕ)). base_back s (reverse p) + before s t x) (turned_twice p)

pub all_but_last : (n : ℕ) (p : List (Option ℕ)) (x : Option ℕ) → AllImages n (p ++ x ∷ []) → AllImages n p × IsPlace n x
all_but_last n [] None a = (tt, tt)
all_but_last n [] (Some i) a = (tt, a.0)
all_but_last n (None ∷ p) x a = all_but_last n p x a
all_but_last n (Some k ∷ p) x a = let h = all_but_last n p x a.1 in ((a.0, h.0), h.1)

block_back : (s : Space) (back : List (Option ℕ)) → AllImages s.images (reverse back) → length back ≤ s.members → StandsFrom s (reverse back) (base_back s back)
unfolding base_back
block_back s [] a h = first_block s
block_back s (x ∷ back) a h =
    let P : List (Option ℕ) → Type 0 = λ t. AllImages s.images t in
    let parts = all_but_last s.images (reverse back) x (subst P (turned_cons x back) a) in
    let long : length (reverse back) ≡ length back = turned_length back in
    let Q : List (Option ℕ) → Type 0 = λ t. StandsFrom s t (base_back s back + before s (reverse back) x) in
    subst Q (sym (turned_cons x back)) (next_block s (reverse back) x (base_back s back) (block_back s back parts.0 (omega arith)) (omega arith) parts.1)

-- the lists that begin with p stand from its base on
pub block_of : (s : Space) (p : List (Option ℕ)) → AllImages s.images p → length p ≤ s.members → StandsFrom s p (base_of s p)
block_of s p a h =
    let long : length (reverse p) ≡ length p = turned_length p in
    let P : List (Option ℕ) → Type 0 = λ t. AllImages s.images t in
    let Q : List (Option ℕ) → Type 0 = λ t. StandsFrom s t (base_of s p) in
    subst Q (turned_twice p) (block_back s (reverse p) (subst P (sym (turned_twice p)) a) (omega arith))

-- an end of p begins with an image or with nothing
image_of : (s : Space) (p : List (Option ℕ)) (j k : ℕ) → j < images_before s p k →
    (i : ℕ) × (i < k) × (images_before s p i ≤ j) × (j < images_before s p i + length (ends s (p ++ Some i ∷ [])))
unfolding images_before
image_of s p j zero h = absurd (omega arith)
image_of s p j (suc k) h = elim (cases_lt j (images_before s p k)) [
  | inl below ↦ (let r = image_of s p j k below in (r.0, (let lt : r.0 < k = r.1 in omega arith), r.2, r.3))
  | inr above ↦ (k, (omega arith), above, h)
]

child_of : (s : Space) (p : List (Option ℕ)) (j : ℕ) → length p < s.members → j < length (ends s p) →
    (y : Option ℕ) × (r : ℕ) × IsPlace s.images y × (j ≡ before s p y + r) × (r < length (ends s (p ++ y ∷ [])))
child_of s p j short h = elim (cases_lt j (images_before s p s.images)) [
  | inl below ↦ (let r = image_of s p j s.images below in
      let low : images_before s p r.0 ≤ j = r.2 in
      let high : j < images_before s p r.0 + length (ends s (p ++ Some r.0 ∷ [])) = r.3 in
      (Some r.0, j - images_before s p r.0, r.1, (omega arith), (omega arith)))
  | inr above ↦ (let all : length (ends s p) ≡ images_before s p s.images + length (ends s (p ++ None ∷ [])) = all_ends s p short in
      (None, j - images_before s p s.images, tt, (omega arith), (omega arith)))
]

begins_front : (p l : List (Option ℕ)) (x : Option ℕ) → begins (p ++ x ∷ []) l ≡ true → begins p l ≡ true
unfolding begins
begins_front [] l x h = refl
begins_front (q ∷ p) [] x h = h
begins_front (q ∷ p) (y ∷ l) x h =
    let parts = and_parts (same_place q y) (begins (p ++ x ∷ []) l) h in
    ap₂ (λ (a b : Bool). a && b) parts.0 (begins_front p l x parts.1)

same_places : (x y : Option ℕ) → same_place x y ≡ true → x ≡ y
unfolding same_place
same_places None None h = refl
same_places None (Some k) h = absurd (search rules)
same_places (Some i) None h = absurd (search rules)
same_places (Some i) (Some k) h = ap (λ t. Some t) (sym (eqb-true k i h))

begins_last : (p e : List (Option ℕ)) (x y : Option ℕ) → begins (p ++ x ∷ []) ((p ++ y ∷ []) ++ e) ≡ true → x ≡ y
unfolding begins
begins_last [] e x y h = same_places x y (and_parts (same_place x y) true h).0
begins_last (q ∷ p) e x y h = begins_last p e x y (and_parts (same_place q q) (begins (p ++ x ∷ []) ((p ++ y ∷ []) ++ e)) h).1

pub begins_own : (p e : List (Option ℕ)) → begins p (p ++ e) ≡ true
unfolding begins same_place
begins_own [] e = refl
begins_own (None ∷ p) e = begins_own p e
begins_own (Some i ∷ p) e = ap₂ (λ (a b : Bool). a && b) (eq-eqb i i refl) (begins_own p e)

some_inside : {A : Type 0} (x y : A) → (let l : Option A = Some x in l ≡ Some y) → x ≡ y
some_inside x y e = search rules

-- the list of a rank within the block of p begins with p
pub list_at : (s : Space) (p : List (Option ℕ)) (r : ℕ) → AllImages s.images p → length p ≤ s.members → base_of s p ≤ r → r < base_of s p + length (ends s p) →
    (e : List (Option ℕ)) × (slice_get (lists_of s) r ≡ Some (p ++ e))
list_at s p r a short lo hi = (get_or (ends s p) (r - base_of s p) [], here (r - base_of s p) (omega arith) (omega arith))
  where
    here : (k : ℕ) → base_of s p + k ≡ r → k < length (ends s p) → slice_get (lists_of s) r ≡ Some (p ++ get_or (ends s p) k [])
    here k e h = ap (slice_get (lists_of s)) (sym e) ∙ (block_of s p a short).at k h ∙ ap (option_map (λ l. p ++ l)) (slice_get-get_or (ends s p) k [] h)

-- a list that begins with p has a rank within its block
pub record Within (base count r : ℕ) : Type 0 where
  pub low : base ≤ r
  pub high : r < base + count

in_back : (s : Space) (back : List (Option ℕ)) (r : ℕ) (l : List (Option ℕ)) → AllImages s.images (reverse back) → length back ≤ s.members →
    slice_get (lists_of s) r ≡ Some l → begins (reverse back) l ≡ true → Within (base_back s back) (length (ends s (reverse back))) r
unfolding base_back
in_back s [] r l a h e b = record {
  low = omega arith;
  high = (let lt : r < length (lists_of s) = slice_get_within (lists_of s) r l e in
      let f : length (ends s []) ≡ length (lists_of s) = ap length (ends_of_nothing s) in omega arith);
}
in_back s (x ∷ back) r l a h e b =
    let p = reverse back in
    let P : List (Option ℕ) → Type 0 = λ t. AllImages s.images t in
    let parts = all_but_last s.images (reverse back) x (subst P (turned_cons x back) a) in
    let long : length (reverse back) ≡ length back = turned_length back in
    let bb : begins (reverse back ++ x ∷ []) l ≡ true = ap (λ (t : List (Option ℕ)). begins t l) (sym (turned_cons x back)) ∙ b in
    let parent = in_back s back r l parts.0 (omega arith) e (begins_front p l x bb) in
    let low : base_back s back ≤ r = parent.low in
    let high : r < base_back s back + length (ends s (reverse back)) = parent.high in
    let child = child_of s (reverse back) (r - base_back s back) (omega arith) (omega arith) in
    here parts.0 parts.1 bb child.0 child.1 child.2 (let q : r - base_back s back ≡ before s (reverse back) child.0 + child.1 = child.3 in omega arith) child.4
  where
    here : AllImages s.images (reverse back) → IsPlace s.images x → begins (reverse back ++ x ∷ []) l ≡ true → (y : Option ℕ) (k : ℕ) → IsPlace s.images y →
        r ≡ base_back s back + before s (reverse back) y + k → k < length (ends s (reverse back ++ y ∷ [])) →
        Within (base_back s back + before s (reverse back) x) (length (ends s (reverse (x ∷ back)))) r
    here known place bb y k ok at lt =
        let long : length (reverse back) ≡ length back = turned_length back in
        let block = next_block s (reverse back) y (base_back s back) (block_back s back known (omega arith)) (omega arith) ok in
        let f : slice_get (ends s (reverse back ++ y ∷ [])) k ≡ Some (get_or (ends s (reverse back ++ y ∷ [])) k []) = slice_get-get_or (ends s (reverse back ++ y ∷ [])) k [] lt in
        let list : l ≡ (reverse back ++ y ∷ []) ++ get_or (ends s (reverse back ++ y ∷ [])) k []
        = some_inside _ _ (sym e ∙ ap (slice_get (lists_of s)) at ∙ block.at k lt ∙ ap (option_map (λ t. (reverse back ++ y ∷ []) ++ t)) f) in
        let same : x ≡ y = begins_last (reverse back) (get_or (ends s (reverse back ++ y ∷ [])) k []) x y (ap (begins (reverse back ++ x ∷ [])) (sym list) ∙ bb) in
        let c : length (ends s (reverse (x ∷ back))) ≡ length (ends s (reverse back ++ y ∷ []))
        = ap (λ (t : List (Option ℕ)). length (ends s t)) (turned_cons x back) ∙ ap (λ (t : Option ℕ). length (ends s (reverse back ++ t ∷ []))) same in
        let d : before s (reverse back) x ≡ before s (reverse back) y = ap (before s (reverse back)) same in
        record { low = omega arith; high = omega arith }

pub in_block : (s : Space) (p : List (Option ℕ)) (r : ℕ) (l : List (Option ℕ)) → AllImages s.images p → length p ≤ s.members →
    slice_get (lists_of s) r ≡ Some l → begins p l ≡ true → Within (base_of s p) (length (ends s p)) r
in_block s p r l a h e b =
    let long : length (reverse p) ≡ length p = turned_length p in
    let P : List (Option ℕ) → Type 0 = λ t. AllImages s.images t in
    let Q : List (Option ℕ) → Type 0 = λ t. Within (base_of s p) (length (ends s t)) r in
    subst Q (turned_twice p) (in_back s (reverse p) r l (subst P (sym (turned_twice p)) a) (omega arith) e (ap (λ (t : List (Option ℕ)). begins t l) (turned_twice p) ∙ b))
