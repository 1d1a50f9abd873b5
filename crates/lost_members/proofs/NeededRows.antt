-- How many sectors of a row are needed.
use Rattle.std.proofs.Common.{◌≡◌, ℕ, zero, suc, ◌+◌, ◌*◌, ◌/◌, ◌<◌, ◌≤◌, List, [], ◌∷◌, length, get_or, map, cond, true, false, Bool, ◌&&◌, ◌||◌, not, nat_le, refl, ap, sym, ◌∙◌, arith, inl, inr, Option, Some, None}
use Rattle.std.proofs.lemmas.Bool.{cases_lt, false≢true}
use Rattle.std.proofs.lemmas.Bool.Decides.{nat_tests}
use Rattle.std.specs.List.{count_by, range_with_len, sum}
use Rattle.std.specs.Option.{is_none, is_some}
use Rattle.outside.proofs.Reading.{reads_up}
use Rattle.outside.specs.Seen.{OnlyReads, Seen}
use Rattle.pq_parity.specs.Needs.{is_p_lost, lost_data, needs}
use Rattle.raid_layouts.proofs.Counts.{any_counted, both_numbers, cells_length, count_cons, count_missing, count_p, count_parity, count_q, counted_any, number, number_few, q_beside}
use Rattle.raid_layouts.proofs.Shapes.{shaped_head, shaped_missing, shaped_slots}
use Rattle.raid_params.specs.Size.{area, data_blocks}
use Rattle.raid_params.specs.Validity.{is_shaped}
use Rattle.raid_params.specs.declared.types.Cell.{Cell}
use Rattle.raid_params.specs.declared.types.Geometry.{Geometry}
use Rattle.raid_params.specs.declared.types.Head.{Head}
use Rattle.raid_params.specs.declared.types.Part.{Part}
use Rattle.raid_params.specs.declared.types.Part.TheVariants.{Block, P, Q}
use Rattle.raid_terms.specs.Cells.{cells_from, part_of, row_cells}
use Rattle.raid_terms.specs.Parity.{is_data, is_p, is_q}
use Rattle.raid_terms.specs.Role.{p_of, q_of, turn}
use Rattle.lost_members.specs.Laws.{NeedsAsManyAsData, NeedsAsManyAsTheVolume}
use Rattle.member_regions.specs.Members.{IsTestable}
use Rattle.lost_members.specs.Needs.{is_needed, needed_of, needed_sectors}
use Rattle.member_regions.proofs.Counting.{count_first}
use Rattle.lost_members.proofs.LostParts.{cell_of}
use Rattle.lost_members.proofs.NeededSums.{needed_more, needed_none, sum_first}

-- which parts are wanted: data, P where this holds, and Q where that does
abbrev wants : Bool → Bool → Part → Bool
wants p q (Block k) = true
wants p q P = p
wants p q Q = q

-- a cell, by whether it is wanted and there
one_cell : (p q missing : Bool) (part : Part) →
    cond (not missing && wants p q part) 1 0 + cond (missing && is_data part) 1 0 + cond (p && (missing && is_p part)) 1 0 + cond (q && (missing && is_q part)) 1 0
    ≡ cond (is_data part) 1 0 + cond (p && is_p part) 1 0 + cond (q && is_q part) 1 0
one_cell true true true (Block k) = refl
one_cell true true true P = refl
one_cell true true true Q = refl
one_cell true true false (Block k) = refl
one_cell true true false P = refl
one_cell true true false Q = refl
one_cell true false true (Block k) = refl
one_cell true false true P = refl
one_cell true false true Q = refl
one_cell true false false (Block k) = refl
one_cell true false false P = refl
one_cell true false false Q = refl
one_cell false true true (Block k) = refl
one_cell false true true P = refl
one_cell false true true Q = refl
one_cell false true false (Block k) = refl
one_cell false true false P = refl
one_cell false true false Q = refl
one_cell false false true (Block k) = refl
one_cell false false true P = refl
one_cell false false true Q = refl
one_cell false false false (Block k) = refl
one_cell false false false P = refl
one_cell false false false Q = refl

-- and all cells
all_cells : (p q : Bool) (cells : List Cell) →
    count_by (λ c. not c.missing && wants p q c.part) cells + lost_data cells + count_by (λ c. p && (c.missing && is_p c.part)) cells + count_by (λ c. q && (c.missing && is_q c.part)) cells
    ≡ count_by (λ c. is_data c.part) cells + count_by (λ c. p && is_p c.part) cells + count_by (λ c. q && is_q c.part) cells
all_cells p q [] = refl
all_cells p q (cell ∷ cells) =
    omega (
      arith,
      count_cons (λ (c : Cell). not c.missing && wants p q c.part) cell cells,
      count_cons (λ (c : Cell). c.missing && is_data c.part) cell cells,
      count_cons (λ (c : Cell). p && (c.missing && is_p c.part)) cell cells,
      count_cons (λ (c : Cell). q && (c.missing && is_q c.part)) cell cells,
      count_cons (λ (c : Cell). is_data c.part) cell cells,
      count_cons (λ (c : Cell). p && is_p c.part) cell cells,
      count_cons (λ (c : Cell). q && is_q c.part) cell cells,
      one_cell p q cell.missing cell.part,
      all_cells p q cells,
    )

-- a missing cell is data, P or Q
one_missing : (missing : Bool) (part : Part) → cond missing 1 0 ≡ cond (missing && is_data part) 1 0 + cond (missing && is_p part) 1 0 + cond (missing && is_q part) 1 0
one_missing true (Block k) = refl
one_missing true P = refl
one_missing true Q = refl
one_missing false part = refl

all_missing : (cells : List Cell) →
    count_by (λ c. c.missing) cells ≡ lost_data cells + count_by (λ c. c.missing && is_p c.part) cells + count_by (λ c. c.missing && is_q c.part) cells
all_missing [] = refl
all_missing (cell ∷ cells) =
    omega (
      arith,
      count_cons (λ (c : Cell). c.missing) cell cells,
      count_cons (λ (c : Cell). c.missing && is_data c.part) cell cells,
      count_cons (λ (c : Cell). c.missing && is_p c.part) cell cells,
      count_cons (λ (c : Cell). c.missing && is_q c.part) cell cells,
      one_missing cell.missing cell.part,
      all_missing cells,
    )

one_data : (part : Part) → cond (is_data part) 1 0 + cond (not (is_data part)) 1 0 ≡ 1
one_data (Block k) = refl
one_data P = refl
one_data Q = refl

all_data : (cells : List Cell) → count_by (λ c. is_data c.part) cells + count_by (λ c. not (is_data c.part)) cells ≡ length cells
all_data [] = refl
all_data (cell ∷ cells) =
    omega (
      arith,
      count_cons (λ (c : Cell). is_data c.part) cell cells,
      count_cons (λ (c : Cell). not (is_data c.part)) cell cells,
      one_data cell.part,
      all_data cells,
    )

no_cell : (cells : List Cell) → count_by (λ c. false) cells ≡ 0
no_cell [] = refl
no_cell (cell ∷ cells) = count_cons (λ (c : Cell). false) cell cells ∙ omega (arith, no_cell cells)

fewer : (p q : Bool) → cond (p && q) 1 0 ≤ cond q 1 0
fewer true true = omega arith
fewer true false = omega arith
fewer false q = grind (arith, nat_tests)

-- no more cells are a lost P than are P, and so of Q
lost_few : (f : Part → Bool) (cells : List Cell) → count_by (λ c. c.missing && f c.part) cells ≤ count_by (λ c. f c.part) cells
lost_few f [] = omega arith
lost_few f (cell ∷ cells) =
    omega (
      arith,
      count_cons (λ (c : Cell). c.missing && f c.part) cell cells,
      count_cons (λ (c : Cell). f c.part) cell cells,
      fewer cell.missing (f cell.part),
      lost_few f cells,
    )

alike : (f g : Cell → Bool) (cells : List Cell) → ((c : Cell) → f c ≡ g c) → count_by f cells ≡ count_by g cells
alike f g [] same = refl
alike f g (cell ∷ cells) same =
    count_cons f cell cells ∙ ap (λ (b : Bool). cond b 1 0 + count_by f cells) (same cell) ∙ ap (λ (n : ℕ). cond (g cell) 1 0 + n) (alike f g cells same)
    ∙ sym (count_cons g cell cells)

needs_wants : (cells : List Cell) (part : Part) →
    needs cells part ≡ wants (nat_le 1 (lost_data cells)) (nat_le 2 (lost_data cells) || nat_le 1 (lost_data cells) && is_p_lost cells) part
needs_wants cells (Block k) = refl
needs_wants cells P = refl
needs_wants cells Q = refl

-- the wanted cells that are there
abbrev wanted : Bool → Bool → List Cell → ℕ
wanted p q cells = count_by (λ c. not c.missing && wants p q c.part) cells

-- by what they are counted
record Counted (cells : List Cell) : Type 0 where
  one_p : count_by (λ c. is_p c.part) cells ≤ 1
  one_q : count_by (λ c. is_q c.part) cells ≤ 1
  beside : count_by (λ c. is_q c.part) cells ≤ count_by (λ c. is_p c.part) cells
  few : count_by (λ c. c.missing) cells ≤ count_by (λ c. is_p c.part) cells + count_by (λ c. is_q c.part) cells

at_least : (n m : ℕ) → nat_le n m ≡ true → n ≤ m
at_least n m e = grind (arith, nat_tests)

less_than : (n m : ℕ) → nat_le n m ≡ false → m < n
less_than n m e = grind (arith, nat_tests)

-- as many cells are needed as are data
by_lost : (cells : List Cell) (one two p_lost : Bool) → Counted cells → nat_le 1 (lost_data cells) ≡ one → nat_le 2 (lost_data cells) ≡ two → is_p_lost cells ≡ p_lost →
    wanted one (two || one && p_lost) cells ≡ count_by (λ c. is_data c.part) cells
by_lost cells false true p_lost known one two p = absurd (let less = less_than 1 (lost_data cells) one in let more = at_least 2 (lost_data cells) two in omega arith)
by_lost cells false false p_lost known one two p =
    omega (arith, less_than 1 (lost_data cells) one, all_cells false false cells, no_cell cells)
by_lost cells true true p_lost known one two p =
    omega (
      arith,
      at_least 2 (lost_data cells) two,
      all_cells true true cells,
      all_missing cells,
      known.one_p,
      known.one_q,
      known.few,
    )
by_lost cells true false true known one two p =
    omega (
      arith,
      at_least 1 (lost_data cells) one,
      less_than 2 (lost_data cells) two,
      any_counted (λ (c : Cell). c.missing && is_p c.part) cells p,
      lost_few is_p cells,
      all_cells true true cells,
      all_missing cells,
      known.one_p,
      known.one_q,
      known.few,
    )
by_lost cells true false false known one two p =
    elim (cases_lt 0 (count_by (λ (c : Cell). c.missing && is_p c.part) cells)) [
      | inl some ↦ absurd (false≢true (sym p ∙ counted_any (λ (c : Cell). c.missing && is_p c.part) cells (omega arith)))
      | inr none ↦
          omega (
            arith,
            at_least 1 (lost_data cells) one,
            less_than 2 (lost_data cells) two,
            all_cells true false cells,
            no_cell cells,
            all_missing cells,
            known.one_p,
            known.beside,
            known.few,
          )
    ]

row_needs : (cells : List Cell) → Counted cells → count_by (λ c. not c.missing && needs cells c.part) cells ≡ count_by (λ c. is_data c.part) cells
row_needs cells known =
    alike (λ (c : Cell). not c.missing && needs cells c.part)
    (λ (c : Cell). not c.missing && wants (nat_le 1 (lost_data cells)) (nat_le 2 (lost_data cells) || nat_le 1 (lost_data cells) && is_p_lost cells) c.part) cells
    (λ c. ap (λ (b : Bool). not c.missing && b) (needs_wants cells c.part))
    ∙ by_lost cells (nat_le 1 (lost_data cells)) (nat_le 2 (lost_data cells)) (is_p_lost cells) known refl refl refl

no_more : (p q : ℕ) → q ≤ 1 → (1 ≤ q → 1 ≤ p) → q ≤ p
no_more p q few beside = elim (cases_lt 0 q) [
  | inl some ↦ (let one = beside (omega arith) in omega arith)
  | inr none ↦ omega arith
]

-- the cells of a set of a sensible shape
counted_row : (geo : Geometry) (images row : ℕ) → is_shaped geo images ≡ true → Counted (row_cells geo row)
counted_row geo images row shaped =
    let head = geo.head in
    let slots = geo.slots.items in
    let valid = shaped_head geo images shaped in
    let long = shaped_slots geo images shaped in
    let p = count_p head row slots valid long in
    let q = count_q head row slots valid long in
    let one_p = number_few (p_of head row) in
    let one_q = number_few (q_of head row) in
    let all = both_numbers head.level head.pattern head.members (turn head row) in
    let lost = count_missing head row 0 slots in
    let kept = shaped_missing geo images shaped in
    let beside = no_more (number (p_of head row)) (number (q_of head row)) one_q (q_beside head.level head.pattern head.members (turn head row)) in
    record { one_p = omega arith; one_q = omega arith; beside = omega arith; few = omega arith }

data_of_row : (geo : Geometry) (images row : ℕ) → is_shaped geo images ≡ true → count_by (λ c. is_data c.part) (row_cells geo row) ≡ data_blocks geo.head
data_of_row geo images row shaped =
    let head = geo.head in
    let slots = geo.slots.items in
    let valid = shaped_head geo images shaped in
    let long = shaped_slots geo images shaped in
    let p = count_p head row slots valid long in
    let q = count_q head row slots valid long in
    let all = both_numbers head.level head.pattern head.members (turn head row) in
    let parity = count_parity (cells_from head row 0 slots) in
    let kinds = all_data (cells_from head row 0 slots) in
    let cells = cells_length head row 0 slots in
    omega arith

-- a sum over slots is a count of cells
slots_cells : (f : Cell → Bool) (g : ℕ → ℕ) (head : Head) (row a : ℕ) (slots : List (Option ℕ)) →
    ((i s : ℕ) → a + i ≡ s → i < length slots → g s ≡ cond (f (cell_of head row s (get_or slots i None))) 1 0) →
    sum (map g (range_with_len a (length slots))) ≡ count_by f (cells_from head row a slots)
slots_cells f g head row a [] each = refl
slots_cells f g head row a (held ∷ slots) each =
    sum_first g a (length slots)
    ∙ ap (λ (n : ℕ). n + sum (map g (range_with_len (a + 1) (length slots)))) (each 0 a (omega arith) (omega arith))
    ∙ ap (λ (n : ℕ). cond (f (cell_of head row a held)) 1 0 + n)
    (slots_cells f g head row (a + 1) slots (λ i s at below. each (suc i) s (omega arith) (omega arith)))
    ∙ sym (count_cons f (cell_of head row a held) (cells_from head row (a + 1) slots))

there_not : (o : Option ℕ) → is_some o ≡ not (is_none o)
there_not None = refl
there_not (Some i) = refl

-- one sector of each slot
needed_once : (geo : Geometry) (t slot : ℕ) → needed_of geo t 1 slot
    ≡ cond (not (is_none (get_or geo.slots.items slot None)) && needs (row_cells geo (t / geo.head.chunk)) (part_of geo.head (t / geo.head.chunk) slot)) 1 0
unfolding is_needed
needed_once geo t slot =
    count_first (is_needed geo slot) t 0
    ∙ ap (λ (b : Bool). cond (b && needs (row_cells geo (t / geo.head.chunk)) (part_of geo.head (t / geo.head.chunk) slot)) 1 0 + 0) (there_not (get_or geo.slots.items slot None))
    ∙ omega arith

needed_row : (geo : Geometry) (images t : ℕ) → is_shaped geo images ≡ true → needed_sectors geo t 1 ≡ data_blocks geo.head
unfolding needed_sectors
needed_row geo images t shaped =
    slots_cells (λ c. not c.missing && needs (row_cells geo (t / geo.head.chunk)) c.part) (needed_of geo t 1) geo.head (t / geo.head.chunk) 0 geo.slots.items
    (λ i s at below. let same : s ≡ i = omega arith in rw same (needed_once geo t i))
    ∙ row_needs (row_cells geo (t / geo.head.chunk)) (counted_row geo images (t / geo.head.chunk) shaped)
    ∙ data_of_row geo images (t / geo.head.chunk) shaped

-- and of any rows
pub as_many_as_data : NeedsAsManyAsData
as_many_as_data geo images first zero shaped = needed_none geo first ∙ omega arith
as_many_as_data geo images first (suc n) shaped =
    let next : suc n ≡ 1 + n = omega arith in
    let more : suc n * data_blocks geo.head ≡ data_blocks geo.head + n * data_blocks geo.head = grind arith in
    ap (λ (k : ℕ). needed_sectors geo first k) next ∙ needed_more geo first 1 n
    ∙ ap (λ (k : ℕ). k + needed_sectors geo (first + 1) n) (needed_row geo images first shaped)
    ∙ ap (λ (k : ℕ). data_blocks geo.head + k) (as_many_as_data geo images (first + 1) n shaped)
    ∙ sym more

pub as_many_as_volume : NeedsAsManyAsTheVolume
as_many_as_volume geo images end shaped = as_many_as_data geo images 0 (area geo.head end) shaped

-- so no more is read of any rows than they have data
pub reads_data : (old new : Seen) (geo : Geometry) (first n : ℕ) → IsTestable geo → OnlyReads old new (needed_sectors geo first n) → OnlyReads old new (data_blocks geo.head * n)
reads_data old new geo first n set reads =
    let turned : n * data_blocks geo.head ≡ data_blocks geo.head * n = grind arith in
    reads_up old new reads (omega (arith, as_many_as_data geo set.images first n set.shaped))
