-- The marks of a group that fit in a parameter set, counted place by place.
use Rattle.std.proofs.Common.{◌≡◌, ℕ, suc, ◌+◌, List, [], ◌∷◌, length, cond, arith, ap, ap₂, sym, refl, ◌∙◌, Bool, true, false, not, ◌==◌, ◌&&◌, ◌||◌, Option, Some, None, inl, inr}
use Rattle.std.proofs.lemmas.Bool.{and_parts, cases_eq, eq-eqb, ne_eqb, not-true}
use Rattle.std.proofs.lemmas.Iterator.Adapters.{position_from-zero}
use Rattle.std.proofs.lemmas.List.Sums.{sum_by-cons}
use Rattle.std.specs.List.{count_by, position_from, range_with_len, sum_by, slice_index_or}
use Rattle.std.specs.Option.{option_and_then, option_map_or}
use Rattle.raid_layouts.proofs.Counts.{count_cons}
use Rattle.raid_params.specs.Slots.{is_distinct, stands}
use Rattle.raid_params.specs.declared.types.Geometry.{Geometry}
use Rattle.slot_math.proofs.Kept.{turned}
use Rattle.landmark_rules.specs.Groups.{fits_of, misfits_of}
use Rattle.landmark_rules.specs.Marks.{sector_in, slot_holding}
use Rattle.landmark_rules.specs.Rules.{is_fit}
use Rattle.landmark_rules.specs.declared.marks.Mark.{Mark}
use Rattle.mark_tables.specs.Marks.{counted_in, fits_at, misfits_at}
use Rattle.slot_math.proofs.Placed.{placed, placed_same, placed_sum}

-- one where an image stands on a slot that passes
abbrev passes_in : (ℕ → Bool) → ℕ → ℕ → ℕ → ℕ
passes_in test image slot i = cond (image == i && test slot) 1 0

abbrev holds : ℕ → Option ℕ → Bool
holds image held = option_map_or (λ i. i == image) held false

or_none : (a b : Bool) → (a || b) ≡ false → (a ≡ false) × (b ≡ false)
or_none false b e = (refl, e)
or_none true b e = (cc)

-- an image that does not stand there counts nothing
absent_none : (test : ℕ → Bool) (image slot : ℕ) (places : List (Option ℕ)) → stands image places ≡ false → placed ◌+◌ (passes_in test image) slot places ≡ 0
unfolding placed stands
absent_none test image slot [] none = refl
absent_none test image slot (None ∷ places) none = absent_none test image (slot + 1) places none
absent_none test image slot (Some i ∷ places) none =
    let parts = or_none (image == i) (stands image places) none in
    let here : passes_in test image slot i ≡ 0 = ap (λ (b : Bool). cond (b && test slot) 1 0) parts.0 in
    let rest = absent_none test image (slot + 1) places parts.1 in
    omega arith

-- an image that stands on one slot counts by that slot alone
by_slot : (test : ℕ → Bool) (image slot : ℕ) (places : List (Option ℕ)) → is_distinct places ≡ true →
    placed ◌+◌ (passes_in test image) slot places ≡ cond (option_map_or test (position_from (holds image) slot places) false) 1 0
unfolding placed is_distinct
by_slot test image slot [] apart = refl
by_slot test image slot (None ∷ places) apart = by_slot test image (slot + 1) places apart
by_slot test image slot (Some i ∷ places) apart =
    let parts = and_parts (not (stands i places)) (is_distinct places) apart in
    elim (cases_eq image i) [
      | inl e ↦
          let rest : placed ◌+◌ (passes_in test image) (slot + 1) places ≡ 0
          = absent_none test image (slot + 1) places (ap (λ (k : ℕ). stands k places) e ∙ not-true (stands i places) parts.0) in
          let same : (image == i) ≡ true = eq-eqb image i e in
          let found : (i == image) ≡ true = turned i image ∙ same in
          ap₂ (λ (b : Bool) (k : ℕ). cond (b && test slot) 1 0 + k) same rest
          ∙ plus_none (test slot)
          ∙ sym (ap (λ (b : Bool). cond (option_map_or test (cond b (Some slot) (position_from (holds image) (slot + 1) places)) false) 1 0) found)
      | inr ne ↦
          let other : (image == i) ≡ false = ne_eqb image i ne in
          let missed : (i == image) ≡ false = turned i image ∙ other in
          ap (λ (b : Bool). cond (b && test slot) 1 0 + placed ◌+◌ (passes_in test image) (slot + 1) places) other
          ∙ none_plus (placed ◌+◌ (passes_in test image) (slot + 1) places)
          ∙ by_slot test image (slot + 1) places parts.1
          ∙ sym (ap (λ (b : Bool). cond (option_map_or test (cond b (Some slot) (position_from (holds image) (slot + 1) places)) false) 1 0) missed)
    ]
  where
    plus_none : (b : Bool) → cond b 1 0 + 0 ≡ cond b 1 0
    plus_none b = omega arith

    none_plus : (k : ℕ) → 0 + k ≡ k
    none_plus k = omega arith

-- the slots of an array, by the first that holds an image
first_holding : (image : ℕ) (slots : List (Option ℕ)) → slot_holding image slots ≡ position_from (holds image) 0 slots
unfolding slot_holding
first_holding image slots = position_from-zero (holds image) slots

-- a test of the sector of a place of the volume, and that of its slot
through : {A : Type 0} (test : A → Bool) (f : ℕ → Option A) (o : Option ℕ) → option_map_or test (option_and_then f o) false ≡ option_map_or (λ s. option_map_or test (f s) false) o false
through test f None = refl
through test f (Some s) = refl

-- a mark counts in the one slot that holds its image
one_mark : (test : Mark → ℕ → Bool) (geo : Geometry) (end : ℕ) (mark : Mark) → is_distinct geo.slots.items ≡ true →
    placed ◌+◌ (λ slot image. cond (mark.image == image && option_map_or (test mark) (sector_in geo.head end slot mark.sector) false) 1 0) 0 geo.slots.items
    ≡ cond (option_map_or (test mark) (option_and_then (λ slot. sector_in geo.head end slot mark.sector) (slot_holding mark.image geo.slots.items)) false) 1 0
one_mark test geo end mark apart =
    by_slot (λ slot. option_map_or (test mark) (sector_in geo.head end slot mark.sector) false) mark.image 0 geo.slots.items apart
    ∙ ap (λ (o : Option ℕ). cond (option_map_or (λ slot. option_map_or (test mark) (sector_in geo.head end slot mark.sector) false) o false) 1 0)
    (sym (first_holding mark.image geo.slots.items))
    ∙ ap (λ (b : Bool). cond b 1 0) (sym (through (test mark) (λ slot. sector_in geo.head end slot mark.sector) (slot_holding mark.image geo.slots.items)))

placed_none : (slot : ℕ) (places : List (Option ℕ)) → placed ◌+◌ (λ s i. 0) slot places ≡ 0
unfolding placed
placed_none slot [] = refl
placed_none slot (None ∷ places) = placed_none (slot + 1) places
placed_none slot (Some i ∷ places) = let h = placed_none (slot + 1) places in omega arith

-- and all marks do
all_marks : (test : Mark → ℕ → Bool) (geo : Geometry) (end : ℕ) (marks : List Mark) → is_distinct geo.slots.items ≡ true →
    placed ◌+◌ (λ slot image. count_by (λ mark. mark.image == image && option_map_or (test mark) (sector_in geo.head end slot mark.sector) false) marks) 0 geo.slots.items
    ≡ count_by (λ mark. option_map_or (test mark) (option_and_then (λ slot. sector_in geo.head end slot mark.sector) (slot_holding mark.image geo.slots.items)) false) marks
all_marks test geo end [] apart = placed_none 0 geo.slots.items
all_marks test geo end (mark ∷ marks) apart =
    let in_slot : ℕ → ℕ → Mark → Bool = λ slot image m. m.image == image && option_map_or (test m) (sector_in geo.head end slot m.sector) false in
    let in_set : Mark → Bool = λ m. option_map_or (test m) (option_and_then (λ slot. sector_in geo.head end slot m.sector) (slot_holding m.image geo.slots.items)) false in
    placed_same ◌+◌ (λ slot image. count_by (in_slot slot image) (mark ∷ marks)) (λ slot image. cond (in_slot slot image mark) 1 0 + count_by (in_slot slot image) marks) 0 geo.slots.items
    (λ slot image. count_cons (in_slot slot image) mark marks)
    ∙ placed_sum (λ slot image. cond (in_slot slot image mark) 1 0) (λ slot image. count_by (in_slot slot image) marks) 0 geo.slots.items
    ∙ ap₂ (λ (a b : ℕ). a + b) (one_mark test geo end mark apart) (all_marks test geo end marks apart)
    ∙ sym (count_cons in_set mark marks)

pub fits_placed : (geo : Geometry) (end : ℕ) (marks : List Mark) (origin : ℕ) → is_distinct geo.slots.items ≡ true →
    placed ◌+◌ (fits_at geo.head end marks origin) 0 geo.slots.items ≡ fits_of geo end marks origin
fits_placed geo end marks origin apart = all_marks (λ mark v. is_fit mark.rule origin v) geo end marks apart

pub misfits_placed : (geo : Geometry) (end : ℕ) (marks : List Mark) (origin : ℕ) → is_distinct geo.slots.items ≡ true →
    placed ◌+◌ (misfits_at geo.head end marks origin) 0 geo.slots.items ≡ misfits_of geo end marks origin
misfits_placed geo end marks origin apart = all_marks (λ mark v. not (is_fit mark.rule origin v)) geo end marks apart

-- the sum over the slots of a list, and over its places from a slot on
from_slot : (count : ℕ → ℕ → ℕ) (whole : List (Option ℕ)) (slot : ℕ) (places : List (Option ℕ)) → ((k : ℕ) → slice_index_or whole (slot + k) None ≡ slice_index_or places k None) →
    sum_by (λ s. option_map_or (count s) (slice_index_or whole s None) 0) (range_with_len slot (length places)) ≡ placed ◌+◌ count slot places
unfolding placed
from_slot count whole slot [] same = refl
from_slot count whole slot (held ∷ places) same =
    let at : ℕ → ℕ = λ s. option_map_or (count s) (slice_index_or whole s None) 0 in
    let now : slot + 0 ≡ slot = omega arith in
    sum_by-cons at slot (range_with_len (slot + 1) (length places))
    ∙ ap₂ (λ (o : Option ℕ) (k : ℕ). option_map_or (count slot) o 0 + k)
    (ap (λ (s : ℕ). slice_index_or whole s None) (sym now) ∙ same 0)
    (from_slot count whole (slot + 1) places (λ k. let e : slot + 1 + k ≡ slot + suc k = omega arith in ap (λ (s : ℕ). slice_index_or whole s None) e ∙ same (suc k)))
    ∙ here held
  where
    here : (held : Option ℕ) → option_map_or (count slot) held 0 + placed ◌+◌ count (slot + 1) places ≡ placed ◌+◌ count slot (held ∷ places)
    here None = let z : 0 + placed ◌+◌ count (slot + 1) places ≡ placed ◌+◌ count (slot + 1) places = omega arith in z
    here (Some i) = refl

pub counted_placed : (count : ℕ → ℕ → ℕ) (places : List (Option ℕ)) → counted_in count places ≡ placed ◌+◌ count 0 places
counted_placed count places = from_slot count places 0 places (λ k. let e : 0 + k ≡ k = omega arith in ap (λ (s : ℕ). slice_index_or places s None) e)
