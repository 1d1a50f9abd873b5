-- The cells of rows, and the places of cells.
use Rattle.std.proofs.Common.{◌≡◌, ◌≢◌, ℕ, ◌≤◌, ◌<◌, ◌+◌, ◌*◌, ◌%◌, ◌==◌, ◌↔◌, true, not, List, [], length, get_or, nat_eq, nat_lt, unwrap_or, count_by, inl, inr, refl, sym, subst, ap, ◌∙◌, arith, Option, Some}
use Rattle.std.specs.List.{range_with_len}
use Rattle.std.proofs.Math.Nat.{add-mul-mod_self_left}
use Rattle.std.proofs.lemmas.Bool.{cases_eq, cases_lt, eqb-true, eqb-false, ne_eqb, not-true}
use Rattle.std.proofs.lemmas.List.{get_or_default}
use Rattle.std.proofs.lemmas.List.FromFn.{get_or-range_with_len, length-range_with_len}
use Rattle.std.proofs.lemmas.List.Folds.{Any-from_list_any}
use Rattle.std.proofs.lemmas.List.Quantifiers.{position-Some}
use Rattle.std.proofs.lemmas.List.Sums.{AllPass-from_list_all, count_by-le-length}
use Rattle.layout_tables.specs.Cells.{IsCell, cell_with}
use Rattle.layout_tables.specs.Laws.{AreInRange, IsCellOf}
use Rattle.layout_tables.specs.Shape.{data_in, first_of, is_used, parities_in, times}
use Rattle.layout_tables.specs.Tables.{cell_of, item_of, p_of, q_of, row_at, rows_of, slot_with, spares_of}
use Rattle.layout_tables.specs.declared.cell.TableCell.{TableCell}
use Rattle.layout_tables.specs.declared.cell.TableCell.TheVariants.{Item, P, Q, Spare}
use Rattle.layout_tables.specs.declared.table.Table.{Table}
use Rattle.layout_tables.proofs.Counting.{above, below_count, full, place_of, same_place, stands}
use Rattle.layout_tables.proofs.Readings.{is_table_of}
use Rattle.layout_tables.proofs.ShapeLemmas.{FirstParts, RowParts, first_parts, row_parts, table_parts}
use Rattle.layout_tables.proofs.TableLemmas.{items_is, parities_is, period_few, period_is, period_some, row_is, row_slots, slots_few, slots_is, slots_some}
use Rattle.layout_tables.proofs.Writing.{at_place, row_cells}

-- ---- what bytes stand for

data Stands : ℕ → TableCell → Type 0 where
  item : (byte : ℕ) (cell : TableCell) → byte < 24 → cell ≡ Item byte → Stands byte cell
  p : (byte : ℕ) (cell : TableCell) → byte ≡ 24 → cell ≡ P → Stands byte cell
  q : (byte : ℕ) (cell : TableCell) → byte ≡ 25 → cell ≡ Q → Stands byte cell
  spare : (byte : ℕ) (cell : TableCell) → byte ≡ 26 → cell ≡ Spare → Stands byte cell

is_item : (byte : ℕ) → byte < 24 → cell_with byte ≡ Item byte
is_item byte small = rw (ne_eqb byte 24 (λ e. omega arith), ne_eqb byte 25 (λ e. omega arith), ne_eqb byte 26 (λ e. omega arith)) refl

stands_for : (byte : ℕ) → IsCell byte → Stands byte (cell_with byte)
stands_for byte is = elim (cases_lt byte 24) [
  | inl small ↦ item byte (cell_with byte) small (is_item byte small)
  | inr other ↦ elim (cases_eq byte 24) [
    | inl e ↦ p byte (cell_with byte) e (ap cell_with e)
    | inr not_p ↦ elim (cases_eq byte 25) [
      | inl e ↦ q byte (cell_with byte) e (ap cell_with e)
      | inr not_q ↦ let e : byte ≡ 26 = omega arith in spare byte (cell_with byte) e (ap cell_with e)
    ]
  ]
]

byte_of_item : (byte i : ℕ) (cell : TableCell) → Stands byte cell → cell ≡ Item i → byte ≡ i
byte_of_item _ i _ (item byte cell small is) e = cc
byte_of_item _ i _ (p byte cell b is) e = absurd (cc)
byte_of_item _ i _ (q byte cell b is) e = absurd (cc)
byte_of_item _ i _ (spare byte cell b is) e = absurd (cc)

byte_of_p : (byte : ℕ) (cell : TableCell) → Stands byte cell → cell ≡ P → byte ≡ 24
byte_of_p _ _ (item byte cell small is) e = absurd (cc)
byte_of_p _ _ (p byte cell b is) e = b
byte_of_p _ _ (q byte cell b is) e = absurd (cc)
byte_of_p _ _ (spare byte cell b is) e = absurd (cc)

byte_of_q : (byte : ℕ) (cell : TableCell) → Stands byte cell → cell ≡ Q → byte ≡ 25
byte_of_q _ _ (item byte cell small is) e = absurd (cc)
byte_of_q _ _ (p byte cell b is) e = absurd (cc)
byte_of_q _ _ (q byte cell b is) e = b
byte_of_q _ _ (spare byte cell b is) e = absurd (cc)

byte_of_spare : (byte : ℕ) (cell : TableCell) → Stands byte cell → cell ≡ Spare → byte ≡ 26
byte_of_spare _ _ (item byte cell small is) e = absurd (cc)
byte_of_spare _ _ (p byte cell b is) e = absurd (cc)
byte_of_spare _ _ (q byte cell b is) e = absurd (cc)
byte_of_spare _ _ (spare byte cell b is) e = b

-- ---- bytes of a row

abbrev byte_at : Table → ℕ → ℕ → ℕ
byte_at table row slot = get_or (row_at table row) slot 26

first_is : (table : Table) → FirstParts (first_of (rows_of table))
first_is table = first_parts (first_of (rows_of table)) (table_parts (rows_of table) (is_table_of table)).first

parts_of : (table : Table) (row : ℕ) → RowParts (first_of (rows_of table)) (row_at table row)
parts_of table row = row_parts (first_of (rows_of table)) (row_at table row) (row_is table row)

is_cell : (table : Table) (row slot : ℕ) → slot < table.slots → IsCell (byte_at table row slot)
is_cell table row slot below = let cells = row_cells table row in cells.2 slot 26 (omega (arith, row_slots table row))

stands_at : (table : Table) (row slot : ℕ) → slot < table.slots → Stands (byte_at table row slot) (cell_of table row slot)
unfolding cell_of
stands_at table row slot below = stands_for (byte_at table row slot) (is_cell table row slot below)

cell_is : (table : Table) (row slot byte : ℕ) → byte_at table row slot ≡ byte → cell_of table row slot ≡ cell_with byte
unfolding cell_of
cell_is table row slot byte e = ap cell_with e

pub items_few : (table : Table) → table.items ≤ 24
unfolding data_in
items_few table = omega (arith, items_is table, count_by-le-length (λ b. nat_lt b 24) (first_of (rows_of table)), (first_is table).few)

one_item : (table : Table) (row i : ℕ) → i < table.items → times i (row_at table row) ≡ 1
one_item table row i below =
    let few : i < data_in (first_of (rows_of table)) = omega (arith, items_is table) in
    let many = length-range_with_len 0 (data_in (first_of (rows_of table))) in
    let at = get_or-range_with_len 0 (data_in (first_of (rows_of table))) i 0 few in
    let test = AllPass-from_list_all (λ item. nat_eq (times item (row_at table row)) 1) (range_with_len 0 (data_in (first_of (rows_of table)))) (parts_of table row).each i 0 (omega arith) in
    let same : get_or (range_with_len 0 (data_in (first_of (rows_of table)))) i 0 ≡ i = omega arith in
    ap (λ (n : ℕ). times n (row_at table row)) (sym same) ∙ eqb-true (times (get_or (range_with_len 0 (data_in (first_of (rows_of table)))) i 0) (row_at table row)) 1 test

few_p : (table : Table) (row : ℕ) → times 24 (row_at table row) ≤ 1
few_p table row = omega (arith, (parts_of table row).p, (first_is table).one_p)

few_q : (table : Table) (row : ℕ) → times 25 (row_at table row) ≤ times 24 (row_at table row)
few_q table row = omega (arith, (parts_of table row).p, (parts_of table row).q, (first_is table).one_q)

all_parities : (table : Table) (row : ℕ) → times 24 (row_at table row) + times 25 (row_at table row) ≡ table.parities
all_parities table row = omega (arith, (parts_of table row).p, (parts_of table row).q, parities_is table)

-- ---- the slot of a byte that a row has once

record IsAt (table : Table) (row byte slot : ℕ) : Type 0 where
  below : slot < table.slots
  at : byte_at table row slot ≡ byte
  only : (other : ℕ) → other < table.slots → byte_at table row other ≡ byte → other ≡ slot
  first : slot_with table row byte ≡ Some slot

place_at : (table : Table) (row byte : ℕ) → times byte (row_at table row) ≡ 1 → (slot : ℕ) × IsAt table row byte slot
unfolding slot_with
place_at table row byte one =
    let place = place_of (row_at table row) byte one in
    let slots = row_slots table row in (
      place.0,
      record {
        below = omega (arith, place.1);
        at = place.2;
        only = λ other less e. same_place (row_at table row) byte other place.0 (omega arith) (omega arith) (omega (arith, place.1)) e place.2;
        first = place.3;
      },
    )

has_slot : (table : Table) (row byte : ℕ) (cell : TableCell) → times byte (row_at table row) ≡ 1 → cell_with byte ≡ cell → ((other : ℕ) → Stands other cell → other ≡ byte) →
    (slot : ℕ) × (slot < table.slots) × (cell_of table row slot ≡ cell) × ((other : ℕ) → other < table.slots → cell_of table row other ≡ cell → other ≡ slot)
has_slot table row byte cell one is back =
    let place = place_at table row byte one in (
      place.0,
      place.1.below,
      cell_is table row place.0 byte place.1.at ∙ is,
      λ other less e. place.1.only other less (back (byte_at table row other) (subst (λ (c : TableCell). Stands (byte_at table row other) c) e (stands_at table row other less))),
    )

pub one_slot : (table : Table) (row : ℕ) (cell : TableCell) → IsCellOf table cell →
    (slot : ℕ) × (slot < table.slots) × (cell_of table row slot ≡ cell) × ((other : ℕ) → other < table.slots → cell_of table row other ≡ cell → other ≡ slot)
one_slot table row (Item i) is =
    has_slot table row i (Item i) (one_item table row i is) (is_item i (omega (arith, items_few table))) (λ other at. byte_of_item other i (Item i) at refl)
one_slot table row P is = has_slot table row 24 P (omega (arith, few_p table row, few_q table row, all_parities table row)) refl (λ other at. byte_of_p other P at refl)
one_slot table row Q is = has_slot table row 25 Q (omega (arith, few_p table row, few_q table row, all_parities table row)) refl (λ other at. byte_of_q other Q at refl)
one_slot table row Spare is = absurd is

-- ---- each slot has a cell

items_in_rows : (table : Table) (row slot : ℕ) → slot < table.slots → byte_at table row slot < 24 → byte_at table row slot < table.items
unfolding data_in
items_in_rows table row slot below small = elim (cases_lt (byte_at table row slot) table.items) [
  | inl is ↦ is
  | inr le ↦
      let bytes = row_at table row in
      let slots = row_slots table row in
      let one : count_by (λ b. nat_lt b table.items) bytes ≡ table.items = below_count table.items bytes (λ i less. one_item table row i less) in
      let more = above table.items bytes slot 26 (omega arith) le small in
      absurd (omega (arith, (parts_of table row).items, items_is table))
]

cell_of_kind : (table : Table) (row slot byte : ℕ) (cell : TableCell) → slot < table.slots → byte_at table row slot ≡ byte → Stands byte cell → cell ≢ Spare → IsCellOf table cell
cell_of_kind table row slot _ _ below at (item byte cell small is) used =
    let within = items_in_rows table row slot below (omega (arith, at)) in
    subst (IsCellOf table) (sym is) (omega (arith, at))
cell_of_kind table row slot _ _ below at (p byte cell b is) used =
    let one = stands (row_at table row) 24 slot (omega (arith, row_slots table row)) (at ∙ b) in
    subst (IsCellOf table) (sym is) (omega (arith, all_parities table row))
cell_of_kind table row slot _ _ below at (q byte cell b is) used =
    let one = stands (row_at table row) 25 slot (omega (arith, row_slots table row)) (at ∙ b) in
    subst (IsCellOf table) (sym is) (omega (arith, all_parities table row, few_q table row))
cell_of_kind table row slot _ _ below at (spare byte cell b is) used = absurd (used is)

pub has_cell : (table : Table) (row slot : ℕ) → slot < table.slots → cell_of table row slot ≢ Spare → IsCellOf table (cell_of table row slot)
has_cell table row slot below used = cell_of_kind table row slot (byte_at table row slot) (cell_of table row slot) below refl (stands_at table row slot below) used

-- ---- slots of cells

slot_back : (table : Table) (row byte slot : ℕ) → slot_with table row byte ≡ Some slot → byte_at table row slot ≡ byte
unfolding slot_with
slot_back table row byte slot e = eqb-true (byte_at table row slot) byte (position-Some (λ other. other == byte) (row_at table row) slot 26 e).1

place_iff : (table : Table) (row byte slot : ℕ) (cell : TableCell) → slot < table.slots → times byte (row_at table row) ≤ 1 → cell_with byte ≡ cell → ((other : ℕ) → Stands other cell → other ≡ byte) →
    (cell_of table row slot ≡ cell) ↔ (slot_with table row byte ≡ Some slot)
place_iff table row byte slot cell below few is back = (
  λ e.
      let at : byte_at table row slot ≡ byte = back (byte_at table row slot) (subst (λ (c : TableCell). Stands (byte_at table row slot) c) e (stands_at table row slot below)) in
      let some = stands (row_at table row) byte slot (omega (arith, row_slots table row)) at in
      let place = place_at table row byte (omega arith) in
      place.1.first ∙ ap (λ (s : ℕ). Some s) (sym (place.1.only slot below at)),
  λ e. cell_is table row slot byte (slot_back table row byte slot e) ∙ is,
)

item_iff : (table : Table) (row item slot : ℕ) → slot < table.slots → item < table.items → (cell_of table row slot ≡ Item item) ↔ (item_of table row item ≡ slot)
item_iff table row i slot below less =
    let one = one_item table row i less in
    let place = place_at table row i one in
    let found : item_of table row i ≡ place.0 = ap (λ (o : Option ℕ). unwrap_or o 0) place.1.first in (
      λ e.
          let at : byte_at table row slot ≡ i = byte_of_item (byte_at table row slot) i (cell_of table row slot) (stands_at table row slot below) e in
          found ∙ sym (place.1.only slot below at),
      λ e.
          let same : place.0 ≡ slot = sym found ∙ e in
          cell_is table row slot i (subst (λ (s : ℕ). byte_at table row s ≡ i) same place.1.at) ∙ is_item i (omega (arith, items_few table)),
    )

pub slots_are : (table : Table) (row slot : ℕ) → slot < table.slots →
    ((cell_of table row slot ≡ P) ↔ (p_of table row ≡ Some slot)) × ((cell_of table row slot ≡ Q) ↔ (q_of table row ≡ Some slot))
    × ((item : ℕ) → item < table.items → ((cell_of table row slot ≡ Item item) ↔ (item_of table row item ≡ slot)))
slots_are table row slot below = (
  place_iff table row 24 slot P below (few_p table row) refl (λ other at. byte_of_p other P at refl),
  place_iff table row 25 slot Q below (omega (arith, few_p table row, few_q table row)) refl (λ other at. byte_of_q other Q at refl),
  λ i less. item_iff table row i slot below less,
)

-- ---- rows

pub alike : (table : Table) (row : ℕ) →
    (data_in (row_at table row) ≡ table.items) × (parities_in (row_at table row) ≡ table.parities) × (table.items + table.parities + spares_of table row ≡ table.slots)
alike table row =
    let parts = parts_of table row in
    let items : data_in (row_at table row) ≡ table.items = parts.items ∙ sym (items_is table) in
    let whole = full (row_at table row) parts.cells in
    (items, all_parities table row, omega (arith, all_parities table row, row_slots table row))

pub repeat : (table : Table) (row slot : ℕ) → cell_of table (row + table.period) slot ≡ cell_of table row slot
unfolding cell_of row_at
repeat table row slot =
    let same : row + table.period ≡ row + table.period * 1 = omega arith in
    let rest : (row + table.period) % table.period ≡ row % table.period = ap (λ (n : ℕ). n % table.period) same ∙ add-mul-mod_self_left row table.period 1 in
    ap (λ (n : ℕ). cell_with (get_or (get_or (rows_of table) n []) slot 26)) rest

pub used_row : (rows : List (List ℕ)) (slot : ℕ) → is_used rows slot ≡ true → (row : ℕ) × (row < length rows) × (get_or (get_or rows row []) slot 26 ≢ 26)
unfolding is_used
used_row rows slot is =
    let some = Any-from_list_any (λ (row : List ℕ). not (nat_eq (get_or row slot 26) 26)) rows is in
    let other : get_or some.1 slot 26 ≢ 26 = eqb-false (get_or some.1 slot 26) 26 (not-true (nat_eq (get_or some.1 slot 26) 26) some.4) in
    let same : get_or rows some.0 [] ≡ some.1 = get_or_default rows some.0 [] some.1 some.2 ∙ some.3 in
    (some.0, some.2, λ e. other (ap (λ (r : List ℕ). get_or r slot 26) (sym same) ∙ e))

pub used : (table : Table) (slot : ℕ) → slot < table.slots → (row : ℕ) × (row < table.period) × (cell_of table row slot ≢ Spare)
used table slot below =
    let rows = rows_of table in
    let n = length (first_of rows) in
    let many = length-range_with_len 0 n in
    let within : slot < n = omega (arith, slots_is table) in
    let at = get_or-range_with_len 0 n slot 0 within in
    let same : get_or (range_with_len 0 n) slot 0 ≡ slot = omega arith in
    let test = AllPass-from_list_all (is_used rows) (range_with_len 0 n) (table_parts rows (is_table_of table)).used slot 0 (omega arith) in
    let some = used_row rows slot (ap (is_used rows) (sym same) ∙ test) in
    let inside : some.0 < table.period = omega (arith, period_is table, some.1) in
    let bytes : row_at table some.0 ≡ get_or rows some.0 [] = at_place table some.0 inside in (
      some.0,
      inside,
      λ e.
          some.2 (ap (λ (r : List ℕ). get_or r slot 26) (sym bytes) ∙ byte_of_spare (byte_at table some.0 slot) (cell_of table some.0 slot) (stands_at table some.0 slot below) e),
    )

pub in_range : (table : Table) → AreInRange table
in_range table = record {
  some_slots = slots_some table;
  most_slots = slots_few table;
  some_rows = period_some table;
  most_rows = period_few table;
  some_items = omega (arith, (first_is table).items, items_is table);
  most_parities = omega (arith, few_p table 0, few_q table 0, all_parities table 0);
}
