-- Tables: what a slot is for in each row, as a user draws it.
use Rattle.std.specs.Prelude.{ℕ, ◌%◌, ◌==◌, List, [], position, slice_index_or, unwrap_or, Option}
use Rattle.layout_tables.specs.Cells.{cell_with}
use Rattle.layout_tables.specs.Shape.{rows_in, times}
use Rattle.layout_tables.specs.Spelling.{table_name}
use Rattle.layout_tables.specs.declared.cell.TableCell.{TableCell}
use Rattle.layout_tables.specs.declared.limits.TheConstants.{P_BYTE, Q_BYTE, SPARE_BYTE}
use Rattle.layout_tables.specs.declared.table.Table.{Table}

-- the rows of one period
unfoldable pub rows_of : Table → List (List ℕ)
rows_of table = rows_in table.grid table.slots table.period

-- the spelling of a table
abbrev pub spelling : Table → List ℕ
spelling table = table_name (rows_of table)

-- the bytes of a row, whose number counts on over the periods
unfoldable pub row_at : Table → ℕ → List ℕ
row_at table row = slice_index_or (rows_of table) (row % table.period) []

-- what a slot is for in a row
unfoldable pub cell_of : Table → ℕ → ℕ → TableCell
cell_of table row slot = cell_with (slice_index_or (row_at table row) slot SPARE_BYTE)

-- the slot of a byte in a row
unfoldable pub slot_with : Table → ℕ → ℕ → Option ℕ
slot_with table row byte = position (λ other. other == byte) (row_at table row)

-- the slot of a data item in a row
abbrev pub item_of : Table → ℕ → ℕ → ℕ
item_of table row item = unwrap_or (slot_with table row item) 0

-- the slot of P in a row
abbrev pub p_of : Table → ℕ → Option ℕ
p_of table row = slot_with table row P_BYTE

-- the slot of Q in a row
abbrev pub q_of : Table → ℕ → Option ℕ
q_of table row = slot_with table row Q_BYTE

-- how many slots of a row are spares
abbrev pub spares_of : Table → ℕ → ℕ
spares_of table row = times SPARE_BYTE (row_at table row)

-- the slots of a row
abbrev pub slots_of : Table → ℕ
slots_of table = table.slots

-- the rows of the period
abbrev pub period_of : Table → ℕ
period_of table = table.period

-- the data items of a row
abbrev pub items_of : Table → ℕ
items_of table = table.items

-- the parities of a row: 0 at level 0, 1 at level 5, 2 at level 6
abbrev pub parities_of : Table → ℕ
parities_of table = table.parities
