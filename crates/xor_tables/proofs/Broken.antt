-- Rows in which images differ are unsound, where every slot list holds every image.
use Rattle.std.proofs.Common.{◌≡◌, ℕ, zero, suc, ◌+◌, ◌-◌, ◌/◌, ◌<◌, ◌≤◌, min, List, [], ◌∷◌, length, take, cond, arith, ap, sym, refl, ◌∙◌, Bool, true, false, not, ◌==◌, ◌&&◌, ◌||◌, nat_le, Option, Some, None, inl, inr, bit_xor}
use Rattle.std.proofs.lemmas.Bool.{and_parts, cases_eq, eq-eqb, eqb-true, le-leb, leb-true, ne_eqb}
use Rattle.std.proofs.lemmas.List.Sums.{sum_by-le-sum_by}
use Rattle.std.specs.List.{count_by, range_with_len, slice_index_or}
use Rattle.std.specs.Option.{option_and_then, option_map_or}
use Rattle.raid_layouts.proofs.Counts.{count_p, counted_any, number}
use Rattle.raid_layouts.proofs.Levels.{layout_of}
use Rattle.raid_layouts.proofs.Parts.{stands_elsewhere, stands_true}
use Rattle.raid_params.specs.Size.{redundancy}
use Rattle.raid_params.specs.Slots.{empties, is_distinct}
use Rattle.raid_params.specs.Validity.{is_valid_head}
use Rattle.raid_params.specs.declared.types.Cell.{Cell}
use Rattle.raid_params.specs.declared.types.Geometry.{Geometry}
use Rattle.raid_params.specs.declared.types.Level.{Level}
use Rattle.raid_params.specs.declared.types.Level.TheVariants.{Raid0, Raid5, Raid6}
use Rattle.raid_params.specs.declared.types.Pattern.{Pattern}
use Rattle.raid_terms.specs.Cells.{row_cells, stands_in}
use Rattle.raid_terms.specs.Parity.{has_p, is_p, is_sound_row, member_column, passes_parity, tested_rows, unsound_rows}
use Rattle.raid_terms.specs.Role.{p_at, p_of, q_at, q_of, turn}
use Rattle.slot_math.specs.Ways.{AllImages}
use Rattle.search_plan.specs.declared.plan.Plan.{Plan}
use Rattle.xor_tables.specs.Rows.{broken_rows, differ, differ_beside_q, differ_in_row, every, holds_every, others, rows_may_hold, tested}
use Rattle.xor_tables.proofs.Columns.{byte_of, filled_once, none_differ, p_places, p_sum, sound_at, xor_is, xor_others, xor_total}
use Rattle.slot_math.proofs.Placed.{placed_alike, by_image, placed, placed_same, total, total_same, where_it_stands}
use Rattle.xor_tables.proofs.Sets.{IsSetOf}
use Rattle.slot_math.proofs.Standing.{each_stands, held_once, one_each}

-- a set in whose slots each of the first `images` images stands
pub record IsFull (images : ℕ) (geo : Geometry) : Type 0 where
  pub valid : is_valid_head geo.head ≡ true
  pub members : length geo.slots.items ≡ geo.head.members
  pub long : length geo.slots.items ≡ images
  pub filled : empties geo.slots.items ≡ 0
  pub all : AllImages images geo.slots.items
  pub apart : is_distinct geo.slots.items ≡ true

either_zero : (a b : ℕ) → ((a == 0) || (b == 0)) ≡ true → (x : ℕ) → (a ≡ 0 → x ≡ 0) → (b ≡ 0 → x ≡ 0) → x ≡ 0
either_zero a b h x f g = elim (cases_eq a 0) [
  | inl e ↦ f e
  | inr ne ↦ g (eqb-true b 0 (sym (ap (λ (t : Bool). t || (b == 0)) (ne_eqb a 0 ne)) ∙ h))
]

pub full_set : (plan : Plan) (geo : Geometry) → IsSetOf plan geo → holds_every plan geo.head ≡ true → IsFull (length plan.lengths.items) geo
full_set plan geo set holds =
    let n = length plan.lengths.items in
    let slots = geo.slots.items in
    let asked = and_parts (length plan.lengths.items == geo.head.members) ((plan.bounds.foreign == 0) || (min plan.bounds.missing (redundancy geo.head.level) == 0)) holds in
    let count : length plan.lengths.items ≡ geo.head.members = eqb-true (length plan.lengths.items) geo.head.members asked.0 in
    let fit = and_parts (is_distinct geo.slots.items)
    (nat_le (empties geo.slots.items) (min plan.bounds.missing (redundancy geo.head.level)) && nat_le (length plan.lengths.items - (geo.head.members - empties geo.slots.items)) plan.bounds.foreign) set.fit in
    let rest = and_parts (nat_le (empties geo.slots.items) (min plan.bounds.missing (redundancy geo.head.level)))
    (nat_le (length plan.lengths.items - (geo.head.members - empties geo.slots.items)) plan.bounds.foreign) fit.1 in
    let empty_few : empties geo.slots.items ≤ min plan.bounds.missing (redundancy geo.head.level) = leb-true (empties geo.slots.items) (min plan.bounds.missing (redundancy geo.head.level)) rest.0 in
    let foreign_few : length plan.lengths.items - (geo.head.members - empties geo.slots.items) ≤ plan.bounds.foreign
    = leb-true (length plan.lengths.items - (geo.head.members - empties geo.slots.items)) plan.bounds.foreign rest.1 in
    let within = one_each 0 geo.slots.items in
    let long : length geo.slots.items ≡ geo.head.members = set.long in
    record {
      valid = set.head;
      members = set.long;
      long = omega arith;
      filled = either_zero plan.bounds.foreign (min plan.bounds.missing (redundancy geo.head.level)) asked.1 (empties geo.slots.items) (λ e. omega arith) (λ e. omega arith);
      all = set.images;
      apart = fit.0;
    }

-- levels with parity have P in each row
one_p : (level : Level) (pattern : Pattern) (n row : ℕ) → (level ≡ Raid0 → ⊥) → number (p_at level pattern n row) ≡ 1
one_p Raid0 pattern n row some = absurd (some refl)
one_p Raid5 pattern n row some = refl
one_p Raid6 pattern n row some = refl

p_there : (images : ℕ) (geo : Geometry) (row : ℕ) → IsFull images geo → (geo.head.level ≡ Raid0 → ⊥) → has_p (row_cells geo row) ≡ true
p_there images geo row full some =
    let count : count_by (λ c. is_p c.part) (row_cells geo row) ≡ number (p_of geo.head row) = count_p geo.head row geo.slots.items full.valid full.members in
    let one : number (p_of geo.head row) ≡ 1 = one_p geo.head.level geo.head.pattern geo.head.members (turn geo.head row) some in
    counted_any (λ (c : Cell). is_p c.part) (row_cells geo row) (omega arith)

-- in a sound row the images' bytes vanish, all but Q's
vanish : (images : List (List ℕ)) (n : ℕ) (geo : Geometry) (t x : ℕ) → IsFull n geo → (geo.head.level ≡ Raid0 → ⊥) → is_sound_row images geo t ≡ true → x < 512 →
    placed bit_xor (λ s i. cond (stands_in s (q_of geo.head (t / geo.head.chunk))) 0 (byte_of images (geo.head.offset + t) x i)) 0 geo.slots.items ≡ 0
vanish images n geo t x full some sound below =
    let row = t / geo.head.chunk in
    sym (p_places images geo.head.offset t x geo.head (t / geo.head.chunk) 0 geo.slots.items full.filled
    (λ s on. stands_elsewhere s (q_of geo.head (t / geo.head.chunk)) ((layout_of geo.head (t / geo.head.chunk) full.valid).p_not_q s (stands_true s (p_of geo.head (t / geo.head.chunk)) on))))
    ∙ p_sum (row_cells geo (t / geo.head.chunk)) (member_column images geo t x)
    (filled_once images geo.head.offset t x geo.head (t / geo.head.chunk) 0 geo.slots.items full.filled)
    (p_there n geo (t / geo.head.chunk) full some)
    (sound_at (row_cells geo (t / geo.head.chunk)) (member_column images geo t) sound x below)

-- a sum over all images is one over the slots
pub over_slots : (n : ℕ) (geo : Geometry) (g : ℕ → ℕ) → IsFull n geo → total bit_xor g (every n) ≡ placed bit_xor (λ s i. g i) 0 geo.slots.items
over_slots n geo g full =
    total_same bit_xor g (where_it_stands geo.slots.items g) 0 n
    (λ i le lt. sym (ap (λ (b : Bool). cond b (g i) 0) (each_stands n i geo.slots.items full.long full.filled full.all full.apart (omega arith))))
    ∙ sym (by_image bit_xor g n 0 geo.slots.items xor_is full.all full.apart)

pub no_q : (level : Level) (pattern : Pattern) (n row : ℕ) → level ≡ Raid5 → q_at level pattern n row ≡ None
no_q Raid0 pattern n row e = refl
no_q Raid5 pattern n row e = refl
no_q Raid6 pattern n row e = (cc)

not_zero_5 : (level : Level) → level ≡ Raid5 → level ≡ Raid0 → ⊥
not_zero_5 level e f = let bad : Raid5 ≡ Raid0 = sym e ∙ f in (cc)

not_zero_6 : (level : Level) → level ≡ Raid6 → level ≡ Raid0 → ⊥
not_zero_6 level e f = let bad : Raid6 ≡ Raid0 = sym e ∙ f in (cc)

-- at level 5 no image differs from the others in a sound row
pub agree_5 : (images : List (List ℕ)) (plan : Plan) (geo : Geometry) (t : ℕ) → IsFull (length plan.lengths.items) geo → geo.head.level ≡ Raid5 →
    is_sound_row images geo t ≡ true → differ_in_row images plan geo.head t ≡ false
agree_5 images plan geo t full level sound =
    let n = length plan.lengths.items in
    none_differ images (every (length plan.lengths.items)) (geo.head.offset + t)
    (λ x below.
    xor_total (byte_of images (geo.head.offset + t) x) (every (length plan.lengths.items))
    ∙ over_slots (length plan.lengths.items) geo (byte_of images (geo.head.offset + t) x) full
    ∙ placed_same bit_xor (λ s i. byte_of images (geo.head.offset + t) x i)
    (λ s i. cond (stands_in s (q_of geo.head (t / geo.head.chunk))) 0 (byte_of images (geo.head.offset + t) x i)) 0 geo.slots.items
    (λ s i. sym (ap (λ (q : Option ℕ). cond (stands_in s q) 0 (byte_of images (geo.head.offset + t) x i)) (no_q geo.head.level geo.head.pattern geo.head.members (turn geo.head (t / geo.head.chunk)) level)))
    ∙ vanish images (length plan.lengths.items) geo t x full (not_zero_5 geo.head.level level) sound below)

-- the image on Q, and its slot
same_image : (slots : List (Option ℕ)) (q image k i : ℕ) → is_distinct slots ≡ true → slice_index_or slots q None ≡ Some image → slice_index_or slots k None ≡ Some i → (i == image) ≡ (q == k)
same_image slots q image k i apart there here = elim (cases_eq q k) [
  | inl e ↦
      let again : slice_index_or slots k None ≡ Some image = ap (λ (s : ℕ). slice_index_or slots s None) (sym e) ∙ there in
      let same : i ≡ image = (cc) in
      eq-eqb i image same ∙ sym (eq-eqb q k e)
  | inr ne ↦
      ne_eqb i image (λ e. ne (held_once slots q k image apart there (here ∙ ap (λ (j : ℕ). Some j) e)))
      ∙ sym (ne_eqb q k ne)
]

-- at level 6 none of the others does, where the image on Q is left out
agree_6 : (images : List (List ℕ)) (plan : Plan) (geo : Geometry) (t q image : ℕ) → IsFull (length plan.lengths.items) geo → geo.head.level ≡ Raid6 →
    q_of geo.head (t / geo.head.chunk) ≡ Some q → slice_index_or geo.slots.items q None ≡ Some image → is_sound_row images geo t ≡ true →
    differ images (others (length plan.lengths.items) image) (geo.head.offset + t) ≡ false
agree_6 images plan geo t q image full level q_is there sound =
    none_differ images (others (length plan.lengths.items) image) (geo.head.offset + t)
    (λ x below.
    xor_others (byte_of images (geo.head.offset + t) x) image (every (length plan.lengths.items))
    ∙ over_slots (length plan.lengths.items) geo (λ i. cond (i == image) 0 (byte_of images (geo.head.offset + t) x i)) full
    ∙ placed_alike bit_xor (λ s i. cond (i == image) 0 (byte_of images (geo.head.offset + t) x i))
    (λ s i. cond (stands_in s (q_of geo.head (t / geo.head.chunk))) 0 (byte_of images (geo.head.offset + t) x i)) 0 geo.slots.items
    (λ k i here.
    let at : k ≡ 0 + k = omega arith in
    ap (λ (b : Bool). cond b 0 (byte_of images (geo.head.offset + t) x i)) (same_image geo.slots.items q image k i full.apart there here)
    ∙ ap (λ (s : ℕ). cond (q == s) 0 (byte_of images (geo.head.offset + t) x i)) at
    ∙ sym (ap (λ (o : Option ℕ). cond (stands_in (0 + k) o) 0 (byte_of images (geo.head.offset + t) x i)) q_is))
    ∙ vanish images (length plan.lengths.items) geo t x full (not_zero_6 geo.head.level level) sound below)

-- what a place of a prefix holds, that of the list holds
taken_held : (count at i : ℕ) (slots : List (Option ℕ)) → slice_index_or (take count slots) at None ≡ Some i → slice_index_or slots at None ≡ Some i
taken_held zero at i slots e = (cc)
taken_held (suc count) at i [] e = e
taken_held (suc count) zero i (held ∷ slots) e = e
taken_held (suc count) (suc at) i (held ∷ slots) e = taken_held count at i slots e

beside : (images : List (List ℕ)) (plan : Plan) (geo : Geometry) (count t : ℕ) → IsFull (length plan.lengths.items) geo → geo.head.level ≡ Raid6 →
    is_sound_row images geo t ≡ true → differ_beside_q images plan geo.head (take count geo.slots.items) t ≡ false
beside images plan geo count t full level sound = by_q (q_of geo.head (t / geo.head.chunk)) refl
  where
    by_held : (q : ℕ) → q_of geo.head (t / geo.head.chunk) ≡ Some q → (held : Option ℕ) → slice_index_or (take count geo.slots.items) q None ≡ held →
        option_map_or (λ i. differ images (others (length plan.lengths.items) i) (geo.head.offset + t)) held false ≡ false
    by_held q q_is None e = refl
    by_held q q_is (Some image) e = agree_6 images plan geo t q image full level q_is (taken_held count q image geo.slots.items e) sound

    by_q : (q : Option ℕ) → q_of geo.head (t / geo.head.chunk) ≡ q →
        option_map_or (λ i. differ images (others (length plan.lengths.items) i) (geo.head.offset + t))
        (option_and_then (λ s. slice_index_or (take count geo.slots.items) s None) (q_of geo.head (t / geo.head.chunk))) false ≡ false
    by_q None e =
        ap (λ (o : Option ℕ). option_map_or (λ i. differ images (others (length plan.lengths.items) i) (geo.head.offset + t))
        (option_and_then (λ s. slice_index_or (take count geo.slots.items) s None) o) false) e
    by_q (Some q) e =
        ap (λ (o : Option ℕ). option_map_or (λ i. differ images (others (length plan.lengths.items) i) (geo.head.offset + t))
        (option_and_then (λ s. slice_index_or (take count geo.slots.items) s None) o) false) e
        ∙ by_held q e (slice_index_or (take count geo.slots.items) q None) refl

-- rows that are known to be broken are unsound
flag_le : (differs sound : Bool) → (sound ≡ true → differs ≡ false) → cond differs 1 0 ≤ cond (not sound) 1 0
flag_le true true apart = let bad = apart refl in (cc)
flag_le true false apart = omega arith
flag_le false true apart = omega arith
flag_le false false apart = omega arith

unsound_more : (images : List (List ℕ)) (geo : Geometry) (rows : List ℕ) (p : ℕ → Bool) → ((t : ℕ) → is_sound_row images geo t ≡ true → p t ≡ false) →
    count_by p rows ≤ count_by (λ t. not (is_sound_row images geo t)) rows
unsound_more images geo rows p apart =
    sum_by-le-sum_by (λ t. cond (p t) 1 0) (λ t. cond (not (is_sound_row images geo t)) 1 0) rows
    (λ t. flag_le (p t) (is_sound_row images geo t) (apart t))

broken_unsound : (level : Level) (images : List (List ℕ)) (plan : Plan) (geo : Geometry) (count : ℕ) → geo.head.level ≡ level → IsFull (length plan.lengths.items) geo →
    broken_rows level images plan geo.head (take count geo.slots.items) ≤ unsound_rows images geo (tested_rows geo plan.end plan.limits.window)
unfolding broken_rows
broken_unsound Raid0 images plan geo count level full = omega arith
broken_unsound Raid5 images plan geo count level full =
    unsound_more images geo (range_with_len 0 (tested plan geo.head)) (differ_in_row images plan geo.head) (λ t sound. agree_5 images plan geo t full level sound)
broken_unsound Raid6 images plan geo count level full =
    unsound_more images geo (range_with_len 0 (tested plan geo.head)) (differ_beside_q images plan geo.head (take count geo.slots.items)) (λ t sound. beside images plan geo count t full level sound)

pub rows_at : (images : List (List ℕ)) (plan : Plan) (geo : Geometry) (count : ℕ) → IsSetOf plan geo → passes_parity images geo plan.end plan.limits.window plan.limits.badrows ≡ true →
    rows_may_hold images plan geo.head (take count geo.slots.items) ≡ true
unfolding rows_may_hold
rows_at images plan geo count set passes = by_case (holds_every plan geo.head) refl
  where
    by_case : (b : Bool) → holds_every plan geo.head ≡ b →
        (not (holds_every plan geo.head) || nat_le (broken_rows geo.head.level images plan geo.head (take count geo.slots.items)) plan.limits.badrows) ≡ true
    by_case false e = ap (λ (b : Bool). not b || nat_le (broken_rows geo.head.level images plan geo.head (take count geo.slots.items)) plan.limits.badrows) e
    by_case true e =
        let few : unsound_rows images geo (tested_rows geo plan.end plan.limits.window) ≤ plan.limits.badrows
        = leb-true (unsound_rows images geo (tested_rows geo plan.end plan.limits.window)) plan.limits.badrows passes in
        let within = broken_unsound geo.head.level images plan geo count refl (full_set plan geo set e) in
        ap (λ (b : Bool). not b || nat_le (broken_rows geo.head.level images plan geo.head (take count geo.slots.items)) plan.limits.badrows) e
        ∙ le-leb (broken_rows geo.head.level images plan geo.head (take count geo.slots.items)) plan.limits.badrows (omega arith)
