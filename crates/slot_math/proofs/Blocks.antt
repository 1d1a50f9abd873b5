-- Where the lists that begin with a prefix stand in their space.
use Rattle.std.proofs.Common.{rules, ℕ, ◌≡◌, ◌<◌, ◌≤◌, ◌+◌, ◌-◌, ◌^◌, List, [], ◌∷◌, ◌++◌, length, filter, take, refl, sym, ap, ap₂, ◌∙◌, arith, zero, suc, Bool, true, false, ◌&&◌, ◌||◌, not, ◌==◌, nat_le, cond, Option, Some, None, slice_get, get_or, inl, inr, subst, add_assoc, append-nil, zero-add, add-zero}
use Rattle.raid_params.specs.declared.limits.TheConstants.{MOST}
use Rattle.std.proofs.lemmas.Bool.{cases_Bool, and_parts, eqb-true, not-true}
use Rattle.std.proofs.lemmas.List.{take_all, take_more, length-take-le}
use Rattle.search_terms.specs.SlotLists.{all_lists, is_kept}
use Rattle.raid_params.specs.Slots.{is_distinct, empties, stands}
use Rattle.slot_math.specs.Space.{lists_of, rank_in}
use Rattle.slot_math.specs.Ways.{ends, before, is_listed, are_images, AllImages, IsPlace, IsStart, ways}
use Rattle.slot_math.specs.declared.space.Space.{Space}
use Rattle.slot_math.proofs.Bound.{ways_fit}
use Rattle.slot_math.proofs.Completions.{all_images}
use Rattle.slot_math.proofs.Fronts.{GoesOn, goes_on_first, goes_on_more, goes_on_last, ends_of_nothing}
use Rattle.slot_math.proofs.Kept.{total_is}
use Rattle.slot_math.proofs.Positions.{rank_of_element}
use Rattle.slot_math.proofs.Steps.{part_of_ends}

-- the lists that begin with p stand one after another, from rank base on
pub record StandsFrom (s : Space) (p : List (Option ℕ)) (base : ℕ) : Type 0 where
  pub at : (r : ℕ) → r < length (ends s p) → GoesOn s p (base + r) r
  pub within : base + length (ends s p) ≤ length (lists_of s)

pub first_block : (s : Space) → StandsFrom s [] 0
first_block s = record {
  at = λ r h. ap (λ (k : ℕ). slice_get (lists_of s) k) (zero-add r) ∙ goes_on_first s r;
  within = (let e : length (ends s []) ≡ length (lists_of s) = ap length (ends_of_nothing s) in omega arith);
}

pub next_block : (s : Space) (p : List (Option ℕ)) (q : Option ℕ) (base : ℕ) → StandsFrom s p base → length p < s.members → IsPlace s.images q →
    StandsFrom s (p ++ q ∷ []) (base + before s p q)
next_block s p q base b short ok =
    let part : before s p q + length (ends s (p ++ q ∷ [])) ≤ length (ends s p) = part_of_ends s p q short ok in
    let w : base + length (ends s p) ≤ length (lists_of s) = b.within in
    record {
      at = λ r h. goes_on_more s p q (base + before s p q + r) (before s p q + r) r
          (ap (slice_get (lists_of s)) (add_assoc base (before s p q) r) ∙ b.at (before s p q + r) (omega arith)) short ok refl h;
      within = omega arith;
    }

-- what the test of a list says
pub record Listed (s : Space) (l : List (Option ℕ)) : Type 0 where
  pub long : length l ≡ s.members
  pub known : AllImages s.images l
  pub kept : is_kept s.low s.high l ≡ true

pub listed_from : (s : Space) (l : List (Option ℕ)) → is_listed s l ≡ true → Listed s l
listed_from s l h =
    let e = and_parts ((length l == s.members) && are_images s.images l && is_distinct l && nat_le s.low (empties l)) (nat_le (empties l) s.high) h in
    let d = and_parts ((length l == s.members) && are_images s.images l && is_distinct l) (nat_le s.low (empties l)) e.0 in
    let c = and_parts ((length l == s.members) && are_images s.images l) (is_distinct l) d.0 in
    let b = and_parts (length l == s.members) (are_images s.images l) c.0 in
    record {
      long = eqb-true (length l) s.members b.0;
      known = all_images s.images l b.1;
      kept = ap₂ (λ (x y : Bool). x && y) c.1 (ap₂ (λ (x y : Bool). x && y) d.1 e.1);
    }

-- a prefix of a list of the space has different images of the space
stands_front : (l : List (Option ℕ)) (n i : ℕ) → stands i l ≡ false → stands i (take n l) ≡ false
unfolding stands
stands_front l zero i h = refl
stands_front [] (suc n) i h = refl
stands_front (None ∷ l) (suc n) i h = stands_front l n i h
stands_front (Some k ∷ l) (suc n) i h = elim (cases_Bool (i == k)) [
  | inl t ↦ (let e : (true || stands i l) ≡ false = ap (λ (b : Bool). b || stands i l) (sym t) ∙ h in absurd (search rules))
  | inr f ↦ ap (λ (b : Bool). b || stands i (take n l)) f ∙ stands_front l n i (ap (λ (b : Bool). b || stands i l) (sym f) ∙ h)
]

pub distinct_front : (l : List (Option ℕ)) (n : ℕ) → is_distinct l ≡ true → is_distinct (take n l) ≡ true
unfolding is_distinct
distinct_front l zero h = refl
distinct_front [] (suc n) h = refl
distinct_front (None ∷ l) (suc n) h = distinct_front l n h
distinct_front (Some i ∷ l) (suc n) h =
    let parts = and_parts (not (stands i l)) (is_distinct l) h in
    ap₂ (λ (a b : Bool). not a && b) (stands_front l n i (not-true (stands i l) parts.0)) (distinct_front l n parts.1)

pub images_front : (m : ℕ) (l : List (Option ℕ)) (n : ℕ) → AllImages m l → AllImages m (take n l)
images_front m l zero a = tt
images_front m [] (suc n) a = tt
images_front m (None ∷ l) (suc n) a = images_front m l n a
images_front m (Some i ∷ l) (suc n) a = (a.0, images_front m l n a.1)

place_known : (m : ℕ) (l : List (Option ℕ)) (i : ℕ) (d : Option ℕ) → AllImages m l → i < length l → IsPlace m (get_or l i d)
place_known m [] i d a h = absurd (omega arith)
place_known m (None ∷ l) zero d a h = tt
place_known m (Some k ∷ l) zero d a h = a.0
place_known m (None ∷ l) (suc i) d a h = place_known m l i d a (omega arith)
place_known m (Some k ∷ l) (suc i) d a h = place_known m l i d a.1 (omega arith)

pub front_start : (s : Space) (l : List (Option ℕ)) (n : ℕ) → is_listed s l ≡ true → IsStart s (take n l)
front_start s l n h =
    let k = listed_from s l h in
    (images_front s.images l n k.known, distinct_front l n (and_parts (is_distinct l) (nat_le s.low (empties l) && nat_le (empties l) s.high) k.kept).0)

pub front_place : (s : Space) (l : List (Option ℕ)) (i : ℕ) (d : Option ℕ) → is_listed s l ≡ true → i < length l → IsPlace s.images (get_or l i d)
front_place s l i d h lt = place_known s.images l i d (listed_from s l h).known lt

pub listed_long : (s : Space) (l : List (Option ℕ)) → is_listed s l ≡ true → length l ≡ s.members
listed_long s l h = (listed_from s l h).long

pub next_front : (s : Space) (l : List (Option ℕ)) (i base : ℕ) (d : Option ℕ) → StandsFrom s (take i l) base → is_listed s l ≡ true → i < length l →
    StandsFrom s (take (i + 1) l) (base + before s (take i l) (get_or l i d))
next_front s l i base d b h lt =
    let short : length (take i l) ≡ i = length-take-le i l (omega arith) in
    let long : length l ≡ s.members = listed_long s l h in
    let P : List (Option ℕ) → Type 0 = λ t. StandsFrom s t (base + before s (take i l) (get_or l i d)) in
    subst P (sym (take_more l i d lt)) (next_block s (take i l) (get_or l i d) base b (omega arith) (front_place s l i d h lt))

-- ranks are counted in 128 bits
pub total_fits : (s : Space) → s.images ≤ MOST → s.members ≤ MOST → length (lists_of s) ≤ (MOST + 1) ^ MOST
total_fits s n m =
    let e : ways s.low s.high s.images s.members 0 ≡ length (lists_of s) = total_is s in
    let f : ways s.low s.high s.images s.members 0 ≤ (MOST + 1) ^ MOST = ways_fit s.low s.high s.images s.members 0 n m in
    omega arith

pub rank_fits : (s : Space) (l : List (Option ℕ)) (i base : ℕ) (d : Option ℕ) → StandsFrom s (take i l) base → is_listed s l ≡ true → i < length l → s.images ≤ MOST → s.members ≤ MOST →
    base + before s (take i l) (get_or l i d) ≤ (MOST + 1) ^ MOST
rank_fits s l i base d b h lt n m =
    let w : base + before s (take i l) (get_or l i d) + length (ends s (take (i + 1) l)) ≤ length (lists_of s) = (next_front s l i base d b h lt).within in
    let f : length (lists_of s) ≤ (MOST + 1) ^ MOST = total_fits s n m in
    omega arith

-- one list begins with all places of a list
one_end : (s : Space) (l : List (Option ℕ)) → is_listed s l ≡ true → length (ends s l) ≡ 1
unfolding ends all_lists
one_end s l h =
    let k = listed_from s l h in
    let long : length l ≡ s.members = k.long in
    let left : s.members - length l ≡ 0 = omega arith in
    ap (λ (n : ℕ). length (filter (λ e. is_kept s.low s.high (l ++ e)) (all_lists s.images n))) left
    ∙ ap (λ (b : Bool). length (cond b ([] ∷ []) (let t : List (List (Option ℕ)) = [] in t))) (ap (is_kept s.low s.high) (append-nil l) ∙ k.kept)

pub rank_found : (s : Space) (l : List (Option ℕ)) (n base : ℕ) → StandsFrom s (take n l) base → is_listed s l ≡ true → n ≡ length l → Some base ≡ rank_in s l
rank_found s l n base b h e =
    let P : List (Option ℕ) → Type 0 = λ t. StandsFrom s t base in
    let whole : StandsFrom s l base = subst P (take_all n l (omega arith)) b in
    let one : length (ends s l) ≡ 1 = one_end s l h in
    sym (rank_of_element s base l (ap (slice_get (lists_of s)) (sym (add-zero base)) ∙ goes_on_last s l (base + 0) 0 (whole.at 0 (omega arith)) (listed_long s l h) (omega arith)))
