-- Whether a list of a rank in the range begins with a prefix.
use Rattle.std.proofs.Common.{Bool, refl, ℕ, ◌≡◌, ◌<◌, ◌≤◌, ◌+◌, ◌-◌, min, max, List, ◌++◌, length, drop, sym, ap, ◌∙◌, arith, true, false, Option, Some, slice_get, get_or, inl, inr, length-drop}
use Rattle.std.specs.List.{slice_range, list_any}
use Rattle.std.proofs.lemmas.Bool.{cases_lt, cases_Bool, lt-ltb, le-ltb}
use Rattle.std.proofs.lemmas.List.{get_or-drop, get_or-take, length-take-le}
use Rattle.std.proofs.lemmas.List.Folds.{list_any_at, Any-from_list_any}
use Rattle.std.proofs.lemmas.Option.{slice_get-get_or, get_or_from_slice_get}
use Rattle.slot_math.specs.Space.{lists_of, begins}
use Rattle.slot_math.specs.Ways.{ends, AllImages}
use Rattle.candidate_enum.specs.Survivors.{Question}
use Rattle.candidate_enum.specs.Tests.{meets}
use Rattle.candidate_enum.specs.Left.{base_of, overlaps, IsSearch}
use Rattle.candidate_enum.proofs.Bases.{list_at, begins_own, in_block}

-- how long a range is, and what stands in it
pub range_length : {A : Type 0} (xs : List A) (a b : ℕ) → a ≤ b → b ≤ length xs → length (slice_range xs a b) ≡ b - a
range_length xs a b h k =
    let d : length (drop a xs) ≡ length xs - a = length-drop a xs in
    length-take-le (b - a) (drop a xs) (omega arith)

pub range_at : {A : Type 0} (xs : List A) (a b k : ℕ) (d : A) → a + k < b → get_or (slice_range xs a b) k d ≡ get_or xs (a + k) d
range_at xs a b k d h = get_or-take (b - a) (drop a xs) k d (omega arith) ∙ get_or-drop a xs k d

-- some element of a range passes, or none does
range_some : {A : Type 0} (f : A → Bool) (xs : List A) (a b r : ℕ) (x : A) → a ≤ r → r < b → b ≤ length xs → slice_get xs r ≡ Some x → f x ≡ true → list_any f (slice_range xs a b) ≡ true
range_some f xs a b r x low high top e t =
    let at : a + (r - a) ≡ r = omega arith in
    let long : length (slice_range xs a b) ≡ b - a = range_length xs a b (omega arith) top in
    list_any_at f (slice_range xs a b) (r - a) x (omega arith)
    (ap f (range_at xs a b (r - a) x (omega arith) ∙ ap (λ (k : ℕ). get_or xs k x) at ∙ get_or_from_slice_get xs r x x e) ∙ t)

range_none : {A : Type 0} (f : A → Bool) (xs : List A) (a b : ℕ) → a ≤ b → b ≤ length xs → ((r : ℕ) (x : A) → a ≤ r → r < b → slice_get xs r ≡ Some x → f x ≡ true → ⊥) → list_any f (slice_range xs a b) ≡ false
range_none {A} f xs a b low top none = elim (cases_Bool (list_any f (slice_range xs a b))) [
  | inr g ↦ g
  | inl t ↦ (let some = Any-from_list_any f (slice_range xs a b) t in
      let long : length (slice_range xs a b) ≡ b - a = range_length xs a b low top in
      let lt : some.0 < length (slice_range xs a b) = some.2 in
      absurd (none (a + some.0) some.1 (omega arith) (omega arith)
      (slice_get-get_or xs (a + some.0) some.1 (omega arith) ∙ ap (λ (x : A). Some x) (sym (range_at xs a b some.0 some.1 (omega arith)) ∙ some.3)) some.4))
]

pub meets_is : (q : Question) (p : List (Option ℕ)) → IsSearch q.space q.from q.stop → AllImages q.space.images p → length p ≤ q.space.members →
    meets q p ≡ overlaps q.from q.stop (base_of q.space p) (length (ends q.space p))
unfolding meets
meets_is q p w a short = at_base (base_of q.space p) (length (ends q.space p)) refl refl
  where
    some : (b n : ℕ) → b ≡ base_of q.space p → n ≡ length (ends q.space p) → max q.from b < min q.stop (b + n) → list_any (begins p) (slice_range (lists_of q.space) q.from q.stop) ≡ true
    some b n e f lt =
        let at = list_at q.space p (max q.from b) a short (omega arith) (omega arith) in
        range_some (begins p) (lists_of q.space) q.from q.stop (max q.from b) (p ++ at.0) (omega arith) (omega arith) w.ranks at.1 (begins_own p at.0)

    none : (b n : ℕ) → b ≡ base_of q.space p → n ≡ length (ends q.space p) → min q.stop (b + n) ≤ max q.from b → list_any (begins p) (slice_range (lists_of q.space) q.from q.stop) ≡ false
    none b n e f le =
        range_none (begins p) (lists_of q.space) q.from q.stop w.ordered w.ranks (λ r l low high there t.
        let within = in_block q.space p r l a short there t in
        let bottom : base_of q.space p ≤ r = within.low in
        let top : r < base_of q.space p + length (ends q.space p) = within.high in
        omega arith)

    at_base : (b n : ℕ) → b ≡ base_of q.space p → n ≡ length (ends q.space p) → list_any (begins p) (slice_range (lists_of q.space) q.from q.stop) ≡ overlaps q.from q.stop b n
    at_base b n e f = elim (cases_lt (max q.from b) (min q.stop (b + n))) [
      | inl lt ↦ some b n e f lt ∙ sym (lt-ltb (max q.from b) (min q.stop (b + n)) lt)
      | inr le ↦ none b n e f le ∙ sym (le-ltb (max q.from b) (min q.stop (b + n)) le)
    ]
