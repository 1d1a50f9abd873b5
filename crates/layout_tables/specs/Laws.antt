-- Laws of all tables.
use Rattle.std.specs.Prelude.{ℕ, ◌≡◌, ◌≢◌, ◌+◌, ◌<◌, ◌≤◌, ◌↔◌, Some}
use Rattle.layout_tables.specs.Periods.{least_period}
use Rattle.layout_tables.specs.Shape.{data_in, parities_in}
use Rattle.layout_tables.specs.Tables.{cell_of, item_of, items_of, p_of, parities_of, period_of, q_of, row_at, slots_of, spares_of, spelling}
use Rattle.layout_tables.specs.declared.cell.TableCell.{TableCell}
use Rattle.layout_tables.specs.declared.cell.TableCell.TheVariants.{Item, P, Q, Spare}
use Rattle.layout_tables.specs.declared.table.Table.{Table}

-- a cell that each row of the table has: its data items, P from level 5 on, and Q at level 6
abbrev pub IsCellOf : Table → TableCell → Type 0
IsCellOf table (Item i) = i < items_of table
IsCellOf table P = 0 < parities_of table
IsCellOf table Q = 1 < parities_of table
IsCellOf table Spare = ⊥

-- each such cell stands in every row on one slot, and on no other
abbrev pub EachCellHasOneSlot : Type 0
EachCellHasOneSlot = (table : Table) (row : ℕ) (cell : TableCell) → IsCellOf table cell →
    (slot : ℕ) × (slot < slots_of table) × (cell_of table row slot ≡ cell) × ((other : ℕ) → other < slots_of table → cell_of table row other ≡ cell → other ≡ slot)

-- a slot that is no spare in a row has such a cell there
abbrev pub EachSlotHasACell : Type 0
EachSlotHasACell = (table : Table) (row slot : ℕ) → slot < slots_of table → cell_of table row slot ≢ Spare → IsCellOf table (cell_of table row slot)

-- the slot of P in a row is the one whose cell is P, and so with Q and each data item
abbrev pub SlotsAreThoseOfCells : Type 0
SlotsAreThoseOfCells = (table : Table) (row slot : ℕ) → slot < slots_of table →
    ((cell_of table row slot ≡ P) ↔ (p_of table row ≡ Some slot)) × ((cell_of table row slot ≡ Q) ↔ (q_of table row ≡ Some slot))
    × ((item : ℕ) → item < items_of table → ((cell_of table row slot ≡ Item item) ↔ (item_of table row item ≡ slot)))

-- every row has as many data items and as many parities, and its other slots are spares
abbrev pub RowsHaveEqualCounts : Type 0
RowsHaveEqualCounts = (table : Table) (row : ℕ) →
    (data_in (row_at table row) ≡ items_of table) × (parities_in (row_at table row) ≡ parities_of table) × (items_of table + parities_of table + spares_of table row ≡ slots_of table)

-- each slot is no spare in some row of the period
abbrev pub EachSlotIsUsed : Type 0
EachSlotIsUsed = (table : Table) (slot : ℕ) → slot < slots_of table → (row : ℕ) × (row < period_of table) × (cell_of table row slot ≢ Spare)

-- the rows repeat after the period
abbrev pub RowsRepeat : Type 0
RowsRepeat = (table : Table) (row slot : ℕ) → cell_of table (row + period_of table) slot ≡ cell_of table row slot

-- the rows repeat after the least period, which is no longer than the period as it is drawn, and after no fewer rows
abbrev pub LeastPeriodsAreLeast : Type 0
LeastPeriodsAreLeast = (table : Table) →
    (1 ≤ least_period table) × (least_period table ≤ period_of table) × ((row : ℕ) → row_at table (row + least_period table) ≡ row_at table row)
    × ((shift : ℕ) → 1 ≤ shift → shift < least_period table → ((row : ℕ) → row_at table (row + shift) ≡ row_at table row) → ⊥)

-- the numbers of a table
pub record AreInRange (table : Table) : Type 0 where
  pub some_slots : 2 ≤ slots_of table
  pub most_slots : slots_of table ≤ 24
  pub some_rows : 1 ≤ period_of table
  pub most_rows : period_of table ≤ 64
  pub some_items : 2 ≤ items_of table
  pub most_parities : parities_of table ≤ 2

abbrev pub NumbersAreInRange : Type 0
NumbersAreInRange = (table : Table) → AreInRange table

-- tables of one spelling are one table
abbrev pub TablesHaveOneSpelling : Type 0
TablesHaveOneSpelling = (table other : Table) → spelling table ≡ spelling other → table ≡ other
