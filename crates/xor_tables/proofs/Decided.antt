-- At level 5, where every slot list holds every image, the rows that are unsound are those in which the images differ.
use Rattle.std.proofs.Common.{◌≡◌, ℕ, zero, suc, ◌+◌, ◌*◌, ◌/◌, ◌<◌, ◌≤◌, List, [], ◌∷◌, length, cond, arith, ap, sym, refl, subst, ◌∙◌, Bool, true, false, not, ◌&&◌, ◌||◌, nat_eq, nat_le, Option, inl, inr, bit_xor}
use Rattle.std.proofs.lemmas.Bool.{and_parts, cases_Bool, cases_eq, eq-eqb, eqb-true}
use Rattle.std.specs.List.{count_by, list_all, list_any, range_with_len}
use Rattle.raid_layouts.proofs.Counts.{any_counted, count_q, number}
use Rattle.raid_params.specs.Size.{redundancy}
use Rattle.raid_params.specs.declared.types.Cell.{Cell}
use Rattle.raid_params.specs.declared.types.Geometry.{Geometry}
use Rattle.raid_params.specs.declared.types.Level.{Level}
use Rattle.raid_params.specs.declared.types.Level.TheVariants.{Raid0, Raid5, Raid6}
use Rattle.raid_terms.specs.Cells.{row_cells, stands_in}
use Rattle.raid_terms.specs.Parity.{equations_hold, filled, has_p, has_q, in_p, in_q, is_q, is_sound, is_sound_column, is_sound_row, member_column, p_holds, passes_parity, q_holds, sum_of, tested_rows, unsound_rows}
use Rattle.raid_terms.specs.Role.{p_of, q_of, turn}
use Rattle.search_plan.specs.declared.plan.Plan.{Plan}
use Rattle.xor_tables.specs.Rows.{broken_rows, differ, differ_in_row, every, holds_every, is_raid5, needs_table, rows_decide, rows_may_hold, tested, xor_byte}
use Rattle.xor_tables.proofs.Broken.{agree_5, full_set, no_q, over_slots, IsFull}
use Rattle.xor_tables.proofs.Columns.{byte_of, filled_once, p_places, xor_total}
use Rattle.xor_tables.proofs.Sets.{IsSetOf}
use Rattle.slot_math.proofs.Placed.{placed_same}
use Rattle.xor_tables.proofs.Turns.{count_alike, not_of}
use Rattle.raid_layouts.proofs.Levels.{layout_of}
use Rattle.raid_layouts.proofs.Parts.{stands_elsewhere, stands_true}

true_and : (a b : Bool) → a ≡ true → b ≡ true → (a && b) ≡ true
true_and true b e f = f
true_and false b e f = (cc)

or_none : (a b : Bool) → (a || b) ≡ false → (a ≡ false) × (b ≡ false)
or_none true b e = let bad : true ≡ false = e in (bad, (cc))
or_none false b e = (refl, e)

not_none : (b : Bool) → not b ≡ false → b ≡ true
not_none true e = refl
not_none false e = let bad : true ≡ false = e in (cc)

none_at : (f : ℕ → Bool) (a n : ℕ) → list_any f (range_with_len a n) ≡ false → (x : ℕ) → a ≤ x → x < a + n → f x ≡ false
none_at f a zero h x low high = absurd (omega arith)
none_at f a (suc n) h x low high =
    let both = or_none (f a) (list_any f (range_with_len (a + 1) n)) h in
    elim (cases_eq a x) [
      | inl e ↦ subst (λ (y : ℕ). f y ≡ false) e both.0
      | inr ne ↦ none_at f (a + 1) n both.1 x (omega arith) (omega arith)
    ]

all_of : (f : ℕ → Bool) (a n : ℕ) → ((x : ℕ) → a ≤ x → x < a + n → f x ≡ true) → list_all f (range_with_len a n) ≡ true
all_of f a zero h = refl
all_of f a (suc n) h = true_and (f a) (list_all f (range_with_len (a + 1) n)) (h a (omega arith) (omega arith)) (all_of f (a + 1) n (λ x low high. h x (omega arith) (omega arith)))

-- where images do not differ in a sector, the exclusive or of each byte is 0
alike_at : (images : List (List ℕ)) (numbers : List ℕ) (sector : ℕ) → differ images numbers sector ≡ false → (x : ℕ) → x < 512 → xor_byte images numbers (512 * sector + x) ≡ 0
unfolding differ
alike_at images numbers sector alike x below =
    eqb-true (xor_byte images numbers (512 * sector + x)) 0
    (not_none (nat_eq (xor_byte images numbers (512 * sector + x)) 0)
    (none_at (λ y. not (nat_eq (xor_byte images numbers (512 * sector + y)) 0)) 0 512 alike x (omega arith) (omega arith)))

-- at level 5 no cell is Q
q_missing : (images : ℕ) (geo : Geometry) (row : ℕ) → IsFull images geo → geo.head.level ≡ Raid5 → has_q (row_cells geo row) ≡ false
q_missing images geo row full level = elim (cases_Bool (has_q (row_cells geo row))) [
  | inl there ↦
      let some : 1 ≤ count_by (λ c. is_q c.part) (row_cells geo row) = any_counted (λ (c : Cell). is_q c.part) (row_cells geo row) there in
      let count : count_by (λ c. is_q c.part) (row_cells geo row) ≡ number (q_of geo.head row) = count_q geo.head row geo.slots.items full.valid full.members in
      let none : number (q_of geo.head row) ≡ 0 = ap number (no_q geo.head.level geo.head.pattern geo.head.members (turn geo.head row) level) in
      absurd (omega arith)
  | inr none ↦ none
]

-- P's sum over the column is then the exclusive or of all images
column_sum : (images : List (List ℕ)) (n : ℕ) (geo : Geometry) (t x : ℕ) → IsFull n geo → geo.head.level ≡ Raid5 →
    sum_of in_p (row_cells geo (t / geo.head.chunk)) (member_column images geo t x) ≡ xor_byte images (every n) (512 * (geo.head.offset + t) + x)
column_sum images n geo t x full level =
    p_places images geo.head.offset t x geo.head (t / geo.head.chunk) 0 geo.slots.items full.filled
    (λ s on. stands_elsewhere s (q_of geo.head (t / geo.head.chunk)) ((layout_of geo.head (t / geo.head.chunk) full.valid).p_not_q s (stands_true s (p_of geo.head (t / geo.head.chunk)) on)))
    ∙ placed_same bit_xor (λ s i. cond (stands_in s (q_of geo.head (t / geo.head.chunk))) 0 (byte_of images (geo.head.offset + t) x i))
    (λ s i. byte_of images (geo.head.offset + t) x i) 0 geo.slots.items
    (λ s i. ap (λ (q : Option ℕ). cond (stands_in s q) 0 (byte_of images (geo.head.offset + t) x i)) (no_q geo.head.level geo.head.pattern geo.head.members (turn geo.head (t / geo.head.chunk)) level))
    ∙ sym (over_slots n geo (byte_of images (geo.head.offset + t) x) full)
    ∙ sym (xor_total (byte_of images (geo.head.offset + t) x) (every n))

-- a column that is filled in one way is sound where P's sum is 0 and there is no Q
or_true : (a b : Bool) → b ≡ true → (a || b) ≡ true
or_true true b e = refl
or_true false b e = e

or_left : (a b : Bool) → a ≡ true → (a || b) ≡ true
or_left true b e = refl
or_left false b e = (cc)

column_sound : (cells : List Cell) (bytes : List ℕ) → filled cells bytes ≡ bytes ∷ [] → has_q cells ≡ false → sum_of in_p cells bytes ≡ 0 → is_sound_column cells bytes ≡ true
column_sound cells bytes once none zero_sum =
    ap (λ (l : List (List ℕ)). list_any (equations_hold cells) l) once
    ∙ or_left (equations_hold cells bytes) false
    (true_and (p_holds cells bytes) (q_holds cells bytes)
    (or_true (not (has_p cells)) (nat_eq (sum_of in_p cells bytes) 0) (eq-eqb (sum_of in_p cells bytes) 0 zero_sum))
    (or_left (not (has_q cells)) (nat_eq (sum_of in_q cells bytes) 0) (ap (λ (b : Bool). not b) none)))

-- at level 5 a row in which the images do not differ is sound
sound_5 : (images : List (List ℕ)) (plan : Plan) (geo : Geometry) (t : ℕ) → IsFull (length plan.lengths.items) geo → geo.head.level ≡ Raid5 →
    differ_in_row images plan geo.head t ≡ false → is_sound_row images geo t ≡ true
unfolding is_sound
sound_5 images plan geo t full level alike =
    all_of (λ x. is_sound_column (row_cells geo (t / geo.head.chunk)) (member_column images geo t x)) 0 512
    (λ x low high. column_sound (row_cells geo (t / geo.head.chunk)) (member_column images geo t x)
    (filled_once images geo.head.offset t x geo.head (t / geo.head.chunk) 0 geo.slots.items full.filled)
    (q_missing (length plan.lengths.items) geo (t / geo.head.chunk) full level)
    (column_sum images (length plan.lengths.items) geo t x full level
    ∙ alike_at images (every (length plan.lengths.items)) (geo.head.offset + t) alike x (omega arith)))

same_flag : (differs sound : Bool) → (sound ≡ true → differs ≡ false) → (differs ≡ false → sound ≡ true) → differs ≡ not sound
same_flag true true apart alike = let bad = apart refl in (cc)
same_flag true false apart alike = refl
same_flag false true apart alike = refl
same_flag false false apart alike = let bad = alike refl in (cc)

level_5 : (level : Level) → is_raid5 level ≡ true → level ≡ Raid5
level_5 Raid0 e = (cc)
level_5 Raid5 e = refl
level_5 Raid6 e = (cc)

broken_5 : (level : Level) (images : List (List ℕ)) (plan : Plan) (geo : Geometry) → level ≡ Raid5 → geo.head.level ≡ Raid5 → IsFull (length plan.lengths.items) geo →
    broken_rows level images plan geo.head geo.slots.items ≡ unsound_rows images geo (tested_rows geo plan.end plan.limits.window)
unfolding broken_rows
broken_5 Raid0 images plan geo e level full = (cc)
broken_5 Raid5 images plan geo e level full =
    count_alike (differ_in_row images plan geo.head) (λ t. not (is_sound_row images geo t)) (range_with_len 0 (tested plan geo.head))
    (λ t. same_flag (differ_in_row images plan geo.head t) (is_sound_row images geo t) (agree_5 images plan geo t full level) (sound_5 images plan geo t full level))
broken_5 Raid6 images plan geo e level full = (cc)

pub rows_decided : (images : List (List ℕ)) (plan : Plan) (geo : Geometry) → IsSetOf plan geo → rows_decide plan geo.head ≡ true →
    rows_may_hold images plan geo.head geo.slots.items ≡ passes_parity images geo plan.end plan.limits.window plan.limits.badrows
unfolding rows_may_hold
rows_decided images plan geo set decides =
    let parts = and_parts (needs_table plan geo.head) (is_raid5 geo.head.level) decides in
    let holds = and_parts (holds_every plan geo.head) (nat_le 1 (redundancy geo.head.level)) parts.0 in
    let level = level_5 geo.head.level parts.1 in
    not_of (holds_every plan geo.head) (nat_le (broken_rows geo.head.level images plan geo.head geo.slots.items) plan.limits.badrows) holds.0
    ∙ ap (λ (n : ℕ). nat_le n plan.limits.badrows) (broken_5 geo.head.level images plan geo level level (full_set plan geo set holds.0))
