-- Rows of cells that make a table, and how it keeps them. A row is a list of bytes, slot 0 first.
use Rattle.std.specs.Prelude.{ℕ, ◌≡◌, ◌+◌, ◌-◌, Bool, nat_eq, nat_le, nat_lt, ◌==◌, ◌&&◌, not, List, [], ◌++◌, map, length, take, count_by, replicate, slice_index_or, IsTrue}
use Rattle.std.specs.List.{list_all, list_any, range_with_len}
use Rattle.layout_tables.specs.declared.limits.TheConstants.{MOST_TABLE_ROWS, MOST_TABLE_SLOTS, P_BYTE, Q_BYTE, SPARE_BYTE}

-- how many cells of a row have this byte
unfoldable pub times : ℕ → List ℕ → ℕ
times byte row = count_by (λ other. other == byte) row

-- how many cells of a row are data items
unfoldable pub data_in : List ℕ → ℕ
data_in row = count_by (λ byte. nat_lt byte P_BYTE) row

-- how many cells of a row are P or Q
abbrev pub parities_in : List ℕ → ℕ
parities_in row = times P_BYTE row + times Q_BYTE row

-- a row that a table may begin with: 2 to 24 slots, at least two data items, at most one P, and one Q at most and only
-- beside P. So it is of level 0, 5 or 6
unfoldable pub is_first : List ℕ → Bool
is_first row =
    nat_le 2 (length row) && nat_le (length row) MOST_TABLE_SLOTS && nat_le 2 (data_in row) && nat_le (times P_BYTE row) 1
    && nat_le (times Q_BYTE row) (times P_BYTE row)

-- a row that may stand in a table with this first row: it has only cells, as many slots, as many data items, as many P and Q, and each item
-- from 0 up to their number once
unfoldable pub is_row : List ℕ → List ℕ → Bool
is_row first row =
    list_all (λ byte. nat_le byte SPARE_BYTE) row && nat_eq (length row) (length first) && nat_eq (data_in row) (data_in first)
    && nat_eq (times P_BYTE row) (times P_BYTE first) && nat_eq (times Q_BYTE row) (times Q_BYTE first)
    && list_all (λ item. nat_eq (times item row) 1) (range_with_len 0 (data_in first))

-- a slot that is no spare in some row
unfoldable pub is_used : List (List ℕ) → ℕ → Bool
is_used rows slot = list_any (λ row. not (nat_eq (slice_index_or row slot SPARE_BYTE) SPARE_BYTE)) rows

-- the first row
abbrev pub first_of : List (List ℕ) → List ℕ
first_of rows = slice_index_or rows 0 []

-- the rows of one period make a table: 1 to 64 rows, each as the first, and each slot is used
unfoldable pub is_table : List (List ℕ) → Bool
is_table rows =
    nat_le 1 (length rows) && nat_le (length rows) MOST_TABLE_ROWS && is_first (first_of rows) && list_all (is_row (first_of rows)) rows
    && list_all (is_used rows) (range_with_len 0 (length (first_of rows)))

-- a row with spares behind it, up to 24 bytes
abbrev pub padded : List ℕ → List ℕ
padded row = row ++ replicate (MOST_TABLE_SLOTS - length row) SPARE_BYTE

-- rows with rows of spares behind them, up to 64 rows of 24 bytes
abbrev pub grid_of : List (List ℕ) → List (List ℕ)
grid_of rows = map padded rows ++ replicate (MOST_TABLE_ROWS - length rows) (replicate MOST_TABLE_SLOTS SPARE_BYTE)

-- the rows that a grid has
abbrev pub rows_in : List (List ℕ) → ℕ → ℕ → List (List ℕ)
rows_in grid slots period = map (take slots) (take period grid)

-- the fields of a table are those of its rows, which make one
pub record IsDrawn (grid : List (List ℕ)) (slots period items parities : ℕ) : Type 0 where
  pub sound : IsTrue (is_table (rows_in grid slots period))
  pub grid_is : grid ≡ grid_of (rows_in grid slots period)
  pub slots_is : slots ≡ length (first_of (rows_in grid slots period))
  pub period_is : period ≡ length (rows_in grid slots period)
  pub items_is : items ≡ data_in (first_of (rows_in grid slots period))
  pub parities_is : parities ≡ parities_in (first_of (rows_in grid slots period))
