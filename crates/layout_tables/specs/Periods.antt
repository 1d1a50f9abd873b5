-- The least period of a table.
use Rattle.std.specs.Prelude.{ℕ, ◌+◌, ◌-◌, Bool, List, ◌++◌, take, replicate, unwrap_or}
use Rattle.std.specs.List.{find, list_all, range_with_len}
use Rattle.std.specs.Str.{bytes_eq}
use Rattle.layout_tables.specs.Tables.{period_of, row_at}
use Rattle.layout_tables.specs.declared.limits.TheConstants.{MOST_TABLE_ROWS, MOST_TABLE_SLOTS, SPARE_BYTE}
use Rattle.layout_tables.specs.declared.table.Table.{Table}

-- the first rows of a grid, with rows of spares behind them
abbrev pub first_of_grid : List (List ℕ) → ℕ → List (List ℕ)
first_of_grid grid rows = take rows grid ++ replicate (MOST_TABLE_ROWS - rows) (replicate MOST_TABLE_SLOTS SPARE_BYTE)

-- each row is the same as the row that is so many rows later
unfoldable pub repeats_after : Table → ℕ → Bool
repeats_after table shift = list_all (λ row. bytes_eq (row_at table row) (row_at table (row + shift))) (range_with_len 0 (period_of table))

-- the least number of rows after which the rows repeat: the period as it is drawn, if they repeat after no fewer
unfoldable pub least_period : Table → ℕ
least_period table = unwrap_or (find (repeats_after table) (range_with_len 1 (period_of table - 1))) (period_of table)
