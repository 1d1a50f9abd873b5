-- How tables are spelled: =, then the rows with / between them, and the names of a row's cells with . between them.
use Rattle.std.specs.Prelude.{ℕ, List, ◌∷◌, map}
use Rattle.std.specs.List.{join_with_byte}
use Rattle.layout_tables.specs.Cells.{cell_name}

-- the cells of a row with a full stop between them, slot 0 first
abbrev pub row_name : List ℕ → List ℕ
row_name row = join_with_byte 46 (map cell_name row)

-- the rows of a period with a slash between them
abbrev pub rows_name : List (List ℕ) → List ℕ
rows_name rows = join_with_byte 47 (map row_name rows)

-- the rows behind an equals sign
abbrev pub table_name : List (List ℕ) → List ℕ
table_name rows = 61 ∷ rows_name rows
