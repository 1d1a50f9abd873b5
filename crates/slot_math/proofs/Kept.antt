-- What is kept, place by place.
use Rattle.std.proofs.Common.{ℕ, ◌≡◌, ◌+◌, ◌-◌, List, [], ◌∷◌, length, refl, sym, ap, ◌∙◌, arith, Bool, true, false, ◌&&◌, ◌||◌, not, ◌==◌, add-zero, Option, Some, None, nat_le, inl, inr}
use Rattle.std.proofs.lemmas.Bool.{eq-eqb, ne_eqb, cases_eq}
use Rattle.search_terms.specs.SlotLists.{all_lists, is_kept}
use Rattle.raid_params.specs.Slots.{stands, is_distinct, empties}
use Rattle.slot_math.specs.Space.{lists_of}
use Rattle.slot_math.specs.Ways.{ways}
use Rattle.slot_math.specs.declared.space.Space.{Space}
use Rattle.slot_math.proofs.Sums.{length-filter, passing_same}
use Rattle.slot_math.proofs.Count.{seen_in, follows, count_is}

-- no image of the list was seen
unfoldable pub apart : List ℕ → List (Option ℕ) → Bool
apart seen [] = true
apart seen (None ∷ l) = apart seen l
apart seen (Some i ∷ l) = not (seen_in i seen) && apart seen l

swap_tests : (a s t p : Bool) → (not (a || t) && (not s && p)) ≡ (not (a || s) && (not t && p))
swap_tests true s t p = refl
swap_tests false true true p = refl
swap_tests false true false p = refl
swap_tests false false true p = refl
swap_tests false false false p = refl

pub turned : (x y : ℕ) → (x == y) ≡ (y == x)
turned x y = elim (cases_eq x y) [
  | inl e ↦ eq-eqb x y e ∙ sym (eq-eqb y x (sym e))
  | inr n ↦ ne_eqb x y n ∙ sym (ne_eqb y x (λ e. n (sym e)))
]

pub apart_more : (i : ℕ) (seen : List ℕ) (l : List (Option ℕ)) → apart (i ∷ seen) l ≡ (not (stands i l) && apart seen l)
unfolding apart seen_in stands
apart_more i seen [] = refl
apart_more i seen (None ∷ l) = apart_more i seen l
apart_more i seen (Some k ∷ l) =
    ap (λ (b : Bool). not (b || seen_in k seen) && apart (i ∷ seen) l) (turned k i)
    ∙ ap (λ (b : Bool). not ((i == k) || seen_in k seen) && b) (apart_more i seen l)
    ∙ swap_tests (i == k) (stands i l) (seen_in k seen) (apart seen l)

regroup : (s t p d q : Bool) → (not s && (((not t && p) && d) && q)) ≡ (((not s && p) && (not t && d)) && q)
regroup true t p d q = refl
regroup false true true d q = refl
regroup false true false d q = refl
regroup false false true d q = refl
regroup false false false d q = refl

abbrev between : ℕ → ℕ → ℕ → Bool
between low high n = nat_le low n && nat_le n high

follows_is : (low high : ℕ) (seen : List ℕ) (e : ℕ) (l : List (Option ℕ)) → follows low high seen e l ≡ ((apart seen l && is_distinct l) && between low high (e + empties l))
unfolding follows apart is_distinct empties
follows_is low high seen e [] = ap (between low high) (sym (add-zero e))
follows_is low high seen e (None ∷ l) = follows_is low high seen (e + 1) l ∙ ap (λ (n : ℕ). (apart seen l && is_distinct l) && between low high n) (let q : (e + 1) + empties l ≡ e + (1 + empties l) = omega arith in q)
follows_is low high seen e (Some i ∷ l) =
    ap (λ (b : Bool). not (seen_in i seen) && b) (follows_is low high (i ∷ seen) e l
    ∙ ap (λ (b : Bool). (b && is_distinct l) && between low high (e + empties l)) (apart_more i seen l))
    ∙ regroup (seen_in i seen) (stands i l) (apart seen l) (is_distinct l) (between low high (e + empties l))

pub nothing_seen : (l : List (Option ℕ)) → apart [] l ≡ true
unfolding apart seen_in
nothing_seen [] = refl
nothing_seen (None ∷ l) = nothing_seen l
nothing_seen (Some i ∷ l) = nothing_seen l

pub kept_is : (low high : ℕ) (l : List (Option ℕ)) → is_kept low high l ≡ follows low high [] 0 l
kept_is low high l = sym (follows_is low high [] 0 l
    ∙ ap (λ (b : Bool). (b && is_distinct l) && between low high (0 + empties l)) (nothing_seen l)
    ∙ ap (λ (n : ℕ). is_distinct l && between low high n) (let q : 0 + empties l ≡ empties l = omega arith in q))

-- how many lists a space has
pub total_is : (s : Space) → ways s.low s.high s.images s.members 0 ≡ length (lists_of s)
total_is s = sym (length-filter (is_kept s.low s.high) (all_lists s.images s.members)
    ∙ passing_same (is_kept s.low s.high) (follows s.low s.high [] 0) (all_lists s.images s.members) (kept_is s.low s.high)
    ∙ count_is s.low s.high s.images s.members [] 0 tt
    ∙ ap (λ (u : ℕ). ways s.low s.high u s.members 0) (let q : s.images - 0 ≡ s.images = omega arith in q))
