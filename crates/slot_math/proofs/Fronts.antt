-- The list of a rank, place by place.
use Rattle.std.proofs.Common.{ℕ, ◌≡◌, ◌<◌, ◌≤◌, ◌+◌, ◌-◌, ◌^◌, List, [], ◌∷◌, ◌++◌, length, filter, refl, sym, ap, subst, ap₂, ◌∙◌, arith, zero, suc, Bool, true, false, ◌&&◌, ◌||◌, not, ◌==◌, cond, Option, Some, None, slice_get, option_map, append_assoc, append-nil, length-append, inl, inr}
use Rattle.raid_params.specs.declared.limits.TheConstants.{MOST}
use Rattle.std.proofs.lemmas.Bool.{cases_Bool}
use Rattle.search_terms.specs.SlotLists.{all_lists, is_kept}
use Rattle.raid_params.specs.Slots.{is_distinct, stands, empties}
use Rattle.slot_math.specs.Space.{lists_of}
use Rattle.slot_math.specs.Ways.{ends, images_before, before, IsPlace, AllImages, IsStart, IsImageWays, ways}
use Rattle.slot_math.specs.declared.space.Space.{Space}
use Rattle.slot_math.proofs.Bound.{ways_fit}
use Rattle.slot_math.proofs.Ends.{no_ends, ends_are}
use Rattle.slot_math.proofs.Kept.{turned}
use Rattle.slot_math.proofs.Steps.{end_at, part_of_ends}

-- the list of this rank begins with p and goes on with its end of number rest
abbrev pub GoesOn : Space → List (Option ℕ) → ℕ → ℕ → Type 0
GoesOn s p rank rest = slice_get (lists_of s) rank ≡ option_map (λ l. p ++ l) (slice_get (ends s p) rest)

same_option : {A : Type 0} (f : A → A) → ((x : A) → f x ≡ x) → (o : Option A) → o ≡ option_map f o
same_option f e None = refl
same_option f e (Some x) = ap (λ y. Some y) (sym (e x))

twice : {A : Type 0} (f g h : A → A) → ((x : A) → f (g x) ≡ h x) → (o : Option A) → option_map f (option_map g o) ≡ option_map h o
twice f g h e None = refl
twice f g h e (Some x) = ap (λ y. Some y) (e x)

-- at first nothing is known of the list
pub ends_of_nothing : (s : Space) → ends s [] ≡ lists_of s
unfolding ends
ends_of_nothing s = ap (λ (n : ℕ). filter (is_kept s.low s.high) (all_lists s.images n)) (let e : s.members - 0 ≡ s.members = omega arith in e)

pub goes_on_first : (s : Space) (rank : ℕ) → GoesOn s [] rank rank
goes_on_first s rank = ap (λ (t : List (List (Option ℕ))). slice_get t rank) (sym (ends_of_nothing s)) ∙ same_option (λ l. [] ++ l) (λ l. refl) (slice_get (ends s []) rank)

-- one more place
pub goes_on_more : (s : Space) (p : List (Option ℕ)) (q : Option ℕ) (rank rest next : ℕ) → GoesOn s p rank rest → length p < s.members → IsPlace s.images q →
    rest ≡ before s p q + next → next < length (ends s (p ++ q ∷ [])) → GoesOn s (p ++ q ∷ []) rank next
goes_on_more s p q rank rest next g short ok e h =
    g ∙ ap (λ (r : ℕ). option_map (λ l. p ++ l) (slice_get (ends s p) r)) e
    ∙ ap (option_map (λ l. p ++ l)) (end_at s p q next short ok h)
    ∙ twice (λ l. p ++ l) (λ l. q ∷ l) (λ l. (p ++ q ∷ []) ++ l) (λ l. sym (append_assoc p (q ∷ []) l)) (slice_get (ends s (p ++ q ∷ [])) next)

-- all places
pub goes_on_last : (s : Space) (p : List (Option ℕ)) (rank rest : ℕ) → GoesOn s p rank rest → length p ≡ s.members → rest < length (ends s p) → slice_get (lists_of s) rank ≡ Some p
unfolding ends all_lists
goes_on_last s p rank rest g long h =
    let left : s.members - length p ≡ 0 = omega arith in
    let f = λ (l : List (Option ℕ)). is_kept s.low s.high (p ++ l) in
    let e : filter f (all_lists s.images (s.members - length p)) ≡ cond (f []) ([] ∷ []) [] = ap (λ (n : ℕ). filter f (all_lists s.images n)) left in
    let k : rest < length (cond (f []) ([] ∷ []) []) = (let le : length (filter f (all_lists s.images (s.members - length p))) ≡ length (cond (f []) ([] ∷ []) []) = ap length e in omega arith) in
    g ∙ ap (λ (t : List (List (Option ℕ))). option_map (λ l. p ++ l) (slice_get t rest)) e
    ∙ at_one (f []) rest k
  where
    at_one : (b : Bool) (r : ℕ) → r < length (let t : List (List (Option ℕ)) = cond b ([] ∷ []) [] in t) → option_map (λ l. p ++ l) (slice_get (cond b ([] ∷ []) []) r) ≡ Some p
    at_one true zero h = ap (λ y. Some y) (append-nil p)
    at_one true (suc r) h = absurd (omega arith)
    at_one false r h = absurd (omega arith)

-- an image after the list
pub distinct_more : (p : List (Option ℕ)) (i : ℕ) → is_distinct (p ++ Some i ∷ []) ≡ (is_distinct p && not (stands i p))
unfolding is_distinct stands
distinct_more [] i = refl
distinct_more (None ∷ p) i = distinct_more p i
distinct_more (Some k ∷ p) i =
    ap₂ (λ (a b : Bool). not a && b) (stands_more p k i) (distinct_more p i)
    ∙ regroup (stands k p) (k == i) (is_distinct p) (stands i p)
    ∙ ap (λ (b : Bool). (not (stands k p) && is_distinct p) && not (b || stands i p)) (turned k i)
  where
    either : (a b c : Bool) → (a || (b || c)) ≡ ((a || b) || c)
    either true b c = refl
    either false b c = refl

    stands_more : (p : List (Option ℕ)) (k i : ℕ) → stands k (p ++ Some i ∷ []) ≡ (stands k p || (k == i))
    stands_more [] k i = elim (k == i) as (λ b. (b || false) ≡ b) [ true ↦ refl | false ↦ refl ]
    stands_more (None ∷ p) k i = stands_more p k i
    stands_more (Some j ∷ p) k i = ap (λ (b : Bool). (k == j) || b) (stands_more p k i) ∙ either (k == j) (stands k p) (k == i)

    regroup : (a b c d : Bool) → (not (a || b) && (c && not d)) ≡ ((not a && c) && not (b || d))
    regroup true b c d = refl
    regroup false true true d = refl
    regroup false true false d = refl
    regroup false false c d = refl

pub distinct_more_empty : (p : List (Option ℕ)) → is_distinct (p ++ None ∷ []) ≡ is_distinct p
unfolding is_distinct stands
distinct_more_empty [] = refl
distinct_more_empty (None ∷ p) = distinct_more_empty p
distinct_more_empty (Some k ∷ p) = ap₂ (λ (a b : Bool). not a && b) (stands_more p k) (distinct_more_empty p)
  where
    stands_more : (p : List (Option ℕ)) (k : ℕ) → stands k (p ++ None ∷ []) ≡ stands k p
    stands_more [] k = refl
    stands_more (None ∷ p) k = stands_more p k
    stands_more (Some j ∷ p) k = ap (λ (b : Bool). (k == j) || b) (stands_more p k)

pub all_images_more : (n : ℕ) (p : List (Option ℕ)) (q : Option ℕ) → AllImages n p → IsPlace n q → AllImages n (p ++ q ∷ [])
all_images_more n [] None a h = tt
all_images_more n [] (Some i) a h = (h, tt)
all_images_more n (None ∷ p) q a h = all_images_more n p q a h
all_images_more n (Some k ∷ p) q a h = (a.0, all_images_more n p q a.1 h)

pub empties_more : (p : List (Option ℕ)) (i : ℕ) → empties (p ++ Some i ∷ []) ≡ empties p
unfolding empties
empties_more [] i = refl
empties_more (None ∷ p) i = ap (λ (n : ℕ). 1 + n) (empties_more p i)
empties_more (Some k ∷ p) i = empties_more p i

-- what has ends is a start
pub start_more : (s : Space) (p : List (Option ℕ)) (q : Option ℕ) → IsStart s p → IsPlace s.images q → 0 < length (ends s (p ++ q ∷ [])) → IsStart s (p ++ q ∷ [])
start_more s p q h ok some = elim (cases_Bool (is_distinct (p ++ q ∷ []))) [
  | inl t ↦ (all_images_more s.images p q h.0 ok, t)
  | inr f ↦ (let e : length (ends s (p ++ q ∷ [])) ≡ 0 = no_ends s (p ++ q ∷ []) f in absurd (omega arith))
]

-- the lists that go on with an image that stands already
pub used_image : (s : Space) (p : List (Option ℕ)) (i : ℕ) → stands i p ≡ true → 0 ≡ length (ends s (p ++ Some i ∷ []))
used_image s p i h = sym (no_ends s (p ++ Some i ∷ []) (distinct_more p i ∙ ap (λ (b : Bool). is_distinct p && not b) h ∙ neither (is_distinct p)))
  where
    neither : (b : Bool) → (b && false) ≡ false
    neither true = refl
    neither false = refl

-- those that go on with another one
pub unused_image : (s : Space) (p : List (Option ℕ)) (i : ℕ) → IsStart s p → i < s.images → stands i p ≡ false →
    ways s.low s.high (s.images - (length p + 1 - empties p)) (s.members - (length p + 1)) (empties p) ≡ length (ends s (p ++ Some i ∷ []))
unused_image s p i h ok new =
    let long : length (p ++ Some i ∷ []) ≡ length p + 1 = length-append p (Some i ∷ []) in
    sym (ends_are s (p ++ Some i ∷ []) (all_images_more s.images p (Some i) h.0 ok) (distinct_more p i ∙ ap₂ (λ (a b : Bool). a && not b) h.1 new)
    ∙ ap (λ (e : ℕ). ways s.low s.high (s.images - (length (p ++ Some i ∷ []) - e)) (s.members - length (p ++ Some i ∷ [])) e) (empties_more p i)
    ∙ ap (λ (k : ℕ). ways s.low s.high (s.images - (k - empties p)) (s.members - k) (empties p)) long)

pub room : (p : List (Option ℕ)) → empties p ≤ length p
unfolding empties
room [] = omega arith
room (None ∷ p) = let h : empties p ≤ length p = room p in omega arith
room (Some i ∷ p) = let h : empties p ≤ length p = room p in omega arith

pub none_before : (s : Space) (p : List (Option ℕ)) → images_before s p 0 ≡ 0
unfolding images_before
none_before s p = refl

-- before the first place
pub nothing_yet : (s : Space) (p : List (Option ℕ)) (rank : ℕ) → p ≡ [] → rank < length (lists_of s) →
    (length p ≡ 0) × (IsStart s p) × (GoesOn s p rank rank) × (rank < length (ends s p))
unfolding is_distinct
nothing_yet s p rank e h = (
  ap length e,
  (let P : List (Option ℕ) → Type 0 = λ t. IsStart s t in subst P (sym e) (tt, refl)),
  (let P : List (Option ℕ) → Type 0 = λ t. GoesOn s t rank rank in subst P (sym e) (goes_on_first s rank)),
  (let k : length (ends s p) ≡ length (lists_of s) = ap (λ (t : List (Option ℕ)). length (ends s t)) e ∙ ap length (ends_of_nothing s) in omega arith),
)

-- what goes on from a prefix is counted in 128 bits
pub images_fit : (s : Space) (p : List (Option ℕ)) (k : ℕ) → s.images ≤ MOST → s.members ≤ MOST → IsStart s p → length p < s.members → k < s.images →
    images_before s p k + length (ends s (p ++ Some k ∷ [])) ≤ (MOST + 1) ^ MOST
images_fit s p k n m h short ok =
    let a : images_before s p k + length (ends s (p ++ Some k ∷ [])) ≤ length (ends s p) = part_of_ends s p (Some k) short ok in
    let b : length (ends s p) ≡ ways s.low s.high (s.images - (length p - empties p)) (s.members - length p) (empties p) = ends_are s p h.0 h.1 in
    let c : ways s.low s.high (s.images - (length p - empties p)) (s.members - length p) (empties p) ≤ (MOST + 1) ^ MOST
    = ways_fit s.low s.high (s.images - (length p - empties p)) (s.members - length p) (empties p) (omega arith) (omega arith) in
    omega arith

empties_one_more : (p : List (Option ℕ)) → empties (p ++ None ∷ []) ≡ empties p + 1
unfolding empties
empties_one_more [] = refl
empties_one_more (None ∷ p) = let h : empties (p ++ None ∷ []) ≡ empties p + 1 = empties_one_more p in omega arith
empties_one_more (Some k ∷ p) = empties_one_more p

-- the lists that go on with an empty place
pub empty_place : (s : Space) (p : List (Option ℕ)) → IsStart s p →
    ways s.low s.high (s.images - (length p - empties p)) (s.members - (length p + 1)) (empties p + 1) ≡ length (ends s (p ++ None ∷ []))
empty_place s p h =
    let long : length (p ++ None ∷ []) ≡ length p + 1 = length-append p (None ∷ []) in
    let more : empties (p ++ None ∷ []) ≡ empties p + 1 = empties_one_more p in
    let used : length (p ++ None ∷ []) - empties (p ++ None ∷ []) ≡ length p - empties p = omega arith in
    sym (ends_are s (p ++ None ∷ []) (all_images_more s.images p None h.0 tt) (distinct_more_empty p ∙ h.1)
    ∙ ap (λ (k : ℕ). ways s.low s.high (s.images - k) (s.members - length (p ++ None ∷ [])) (empties (p ++ None ∷ []))) used
    ∙ ap₂ (λ (k e : ℕ). ways s.low s.high (s.images - (length p - empties p)) (s.members - k) e) long more)

pub image_ways_are : (s : Space) (p : List (Option ℕ)) (n : ℕ) → IsStart s p →
    n ≡ ways s.low s.high (s.images - (length p + 1 - empties p)) (s.members - (length p + 1)) (empties p) → IsImageWays s p n
image_ways_are s p n h e = λ i ok new. e ∙ unused_image s p i h ok new
