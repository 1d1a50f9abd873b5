-- How many lists of a space begin with a prefix.
use Rattle.std.proofs.Common.{nat_lt, ◌==◌, ℕ, ◌≡◌, ◌<◌, ◌≤◌, ◌+◌, ◌-◌, List, [], ◌∷◌, ◌++◌, length, filter, refl, sym, ap, ap₂, ◌∙◌, arith, Bool, true, false, ◌&&◌, cond, Option, Some, None, inl, inr, rules, length-append}
use Rattle.std.specs.List.{AllByRecursion}
use Rattle.std.proofs.lemmas.Bool.{and_parts, cases_Bool, eqb-true, ltb-true, lt-ltb}
use Rattle.search_terms.specs.SlotLists.{all_lists, is_kept}
use Rattle.raid_params.specs.Slots.{is_distinct, empties}
use Rattle.slot_math.specs.Space.{begins, same_place, lists_of}
use Rattle.slot_math.specs.Ways.{AllImages, IsPlace, IsStart, are_images, ends, ways}
use Rattle.slot_math.specs.declared.space.Space.{Space}
use Rattle.slot_math.proofs.Sums.{passing, length-filter}
use Rattle.slot_math.proofs.Begins.{passing_begins}
use Rattle.slot_math.proofs.Ends.{ends_are, no_ends}
use Rattle.slot_math.proofs.Fronts.{all_images_more}
use Rattle.slot_math.proofs.Listed.{each_list, each_more}

-- a filter of a filter
passing_filter : {A : Type 0} (f g : A → Bool) (xs : List A) → passing g (filter f xs) ≡ passing (λ x. f x && g x) xs
unfolding passing
passing_filter f g [] = refl
passing_filter {A} f g (x ∷ xs) =
    elim (f x) as (λ t. passing g (cond t (x ∷ filter f xs) (filter f xs)) ≡ cond (t && g x) 1 0 + passing (λ y. f y && g y) xs) [
      | true ↦ ap (λ (n : ℕ). cond (g x) 1 0 + n) (passing_filter f g xs)
      | false ↦ passing_filter f g xs ∙ (let e : passing (λ y. f y && g y) xs ≡ 0 + passing (λ y. f y && g y) xs = omega arith in e)
    ]

-- those that begin with p are its ends
pub begun : (s : Space) (p : List (Option ℕ)) → length p ≤ s.members → AllImages s.images p → length (filter (begins p) (lists_of s)) ≡ length (ends s p)
unfolding ends
begun s p short ok =
    length-filter (begins p) (lists_of s)
    ∙ passing_filter (is_kept s.low s.high) (begins p) (all_lists s.images s.members)
    ∙ ap (λ (k : ℕ). passing (λ l. is_kept s.low s.high l && begins p l) (all_lists s.images k)) (let e : s.members ≡ length p + (s.members - length p) = omega arith in e)
    ∙ passing_begins s.images (s.members - length p) p (is_kept s.low s.high) ok
    ∙ sym (length-filter (λ l. is_kept s.low s.high (p ++ l)) (all_lists s.images (s.members - length p)))

passing_never : {A : Type 0} (f : A → Bool) (xs : List A) → AllByRecursion (λ x. f x ≡ false) xs → passing f xs ≡ 0
unfolding passing
passing_never f [] a = refl
passing_never f (x ∷ xs) a = ap (λ (b : Bool). cond b 1 0 + passing f xs) a.0 ∙ (let e : passing f xs ≡ 0 = passing_never f xs a.1 in omega arith)

-- a list is as long as what it begins with, and has its images
begins_longer : (p l : List (Option ℕ)) → begins p l ≡ true → length p ≤ length l
unfolding begins
begins_longer [] l h = omega arith
begins_longer (q ∷ p) [] h = absurd (search rules)
begins_longer (q ∷ p) (x ∷ l) h = let k : length p ≤ length l = begins_longer p l (and_parts (same_place q x) (begins p l) h).1 in omega arith

begins_images : (n : ℕ) (p l : List (Option ℕ)) → begins p l ≡ true → AllImages n l → AllImages n p
unfolding begins same_place
begins_images n [] l h a = tt
begins_images n (q ∷ p) [] h a = absurd (search rules)
begins_images n (None ∷ p) (None ∷ l) h a = begins_images n p l h a
begins_images n (None ∷ p) (Some k ∷ l) h a = absurd (search rules)
begins_images n (Some i ∷ p) (None ∷ l) h a = absurd (search rules)
begins_images n (Some i ∷ p) (Some k ∷ l) h a =
    let parts = and_parts (k == i) (begins p l) h in
    let e : k ≡ i = eqb-true k i parts.0 in
    let lt : k < n = a.0 in
    ((omega arith), begins_images n p l parts.1 a.1)

none_begin : (s : Space) (p : List (Option ℕ)) → ((l : List (Option ℕ)) → (length l ≡ s.members) × AllImages s.images l → begins p l ≡ false) → length (filter (begins p) (lists_of s)) ≡ 0
none_begin s p h =
    length-filter (begins p) (lists_of s)
    ∙ passing_filter (is_kept s.low s.high) (begins p) (all_lists s.images s.members)
    ∙ passing_never (λ l. is_kept s.low s.high l && begins p l) (all_lists s.images s.members)
    (each_more (λ l. (length l ≡ s.members) × AllImages s.images l) (λ l. (is_kept s.low s.high l && begins p l) ≡ false) (all_lists s.images s.members)
    (λ l a. ap (λ (b : Bool). is_kept s.low s.high l && b) (h l a) ∙ neither (is_kept s.low s.high l)) (each_list s.images s.members))
  where
    neither : (b : Bool) → (b && false) ≡ false
    neither true = refl
    neither false = refl

-- no list begins with more places than it has
pub none_longer : (s : Space) (p : List (Option ℕ)) → s.members < length p → 0 ≡ length (filter (begins p) (lists_of s))
none_longer s p long = sym (none_begin s p (λ l a. elim (cases_Bool (begins p l)) [
  | inl t ↦ (let le : length p ≤ length l = begins_longer p l t in let e : length l ≡ s.members = a.0 in absurd (omega arith))
  | inr f ↦ f
]))

pub all_images : (n : ℕ) (p : List (Option ℕ)) → are_images n p ≡ true → AllImages n p
unfolding are_images
all_images n [] h = tt
all_images n (None ∷ p) h = all_images n p h
all_images n (Some i ∷ p) h = let parts = and_parts (nat_lt i n) (are_images n p) h in (ltb-true i n parts.0, all_images n p parts.1)

pub are_all_images : (n : ℕ) (p : List (Option ℕ)) → AllImages n p → are_images n p ≡ true
unfolding are_images
are_all_images n [] a = refl
are_all_images n (None ∷ p) a = are_all_images n p a
are_all_images n (Some i ∷ p) a = ap₂ (λ (x y : Bool). x && y) (lt-ltb i n a.0) (are_all_images n p a.1)

-- nor with an image that the space does not have
pub none_unknown : (s : Space) (p : List (Option ℕ)) → are_images s.images p ≡ false → 0 ≡ length (filter (begins p) (lists_of s))
none_unknown s p f = sym (none_begin s p (λ l a. elim (cases_Bool (begins p l)) [
  | inl t ↦ (let e : are_images s.images p ≡ true = are_all_images s.images p (begins_images s.images p l t a.1) in absurd (search rules))
  | inr g ↦ g
]))

-- nor with an image twice
pub none_twice : (s : Space) (p : List (Option ℕ)) → length p ≤ s.members → are_images s.images p ≡ true → is_distinct p ≡ false → 0 ≡ length (filter (begins p) (lists_of s))
none_twice s p short ok d = sym (begun s p short (all_images s.images p ok) ∙ no_ends s p d)

-- the others are counted by the ways to go on
pub completed : (s : Space) (p : List (Option ℕ)) → length p ≤ s.members → are_images s.images p ≡ true → is_distinct p ≡ true →
    ways s.low s.high (s.images - (length p - empties p)) (s.members - length p) (empties p) ≡ length (filter (begins p) (lists_of s))
completed s p short ok d = sym (begun s p short (all_images s.images p ok) ∙ ends_are s p (all_images s.images p ok) d)

-- with one place more
pub begun_with : (s : Space) (p : List (Option ℕ)) (q : Option ℕ) (n : ℕ) → IsStart s p → IsPlace s.images q → length p < s.members → n ≡ length (ends s (p ++ q ∷ [])) →
    n ≡ length (filter (begins (p ++ q ∷ [])) (lists_of s))
begun_with s p q n h ok short e =
    let long : length (p ++ q ∷ []) ≡ length p + 1 = length-append p (q ∷ []) in
    e ∙ sym (begun s (p ++ q ∷ []) (omega arith) (all_images_more s.images p q h.0 ok))
