-- The cells of a table, and the bytes that stand for them.
use Rattle.std.specs.Prelude.{ℕ, ◌==◌, ◌≤◌, if◌then◌else◌, List, All, length, map, codes, decimal}
use Rattle.arrayvec.specs.ArrayVec.{ArrayVec}
use Rattle.layout_tables.specs.declared.cell.TableCell.{TableCell}
use Rattle.layout_tables.specs.declared.cell.TableCell.TheVariants.{Item, P, Q, Spare}
use Rattle.layout_tables.specs.declared.limits.TheConstants.{MOST_TABLE_SLOTS, P_BYTE, Q_BYTE, SPARE_BYTE}

-- the cell of a byte: a data item has its number as its byte, and the others come after the items
abbrev pub cell_with : ℕ → TableCell
cell_with byte = if byte == P_BYTE then P else if byte == Q_BYTE then Q else if byte == SPARE_BYTE then Spare else Item byte

-- a byte that stands for a cell
abbrev pub IsCell : ℕ → Type 0
IsCell byte = byte ≤ SPARE_BYTE

-- bytes that stand for the cells of a row
abbrev pub AreCells : List ℕ → Type 0
AreCells row = (1 ≤ length row) × (length row ≤ MOST_TABLE_SLOTS) × All IsCell row

-- the name of a cell: an item has its number, and the others are P, Q and -
unfoldable pub cell_name : ℕ → List ℕ
cell_name byte = if byte == P_BYTE then codes "P" else if byte == Q_BYTE then codes "Q" else if byte == SPARE_BYTE then codes "-" else decimal byte

-- the cells of rows
abbrev pub cells_in : List (ArrayVec ℕ) → List (List ℕ)
cells_in rows = map (λ row. row.items) rows
