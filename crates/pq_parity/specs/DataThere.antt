-- A row whose data are all there: its lost parity is found by them alone.
use Rattle.std.specs.Prelude.{ℕ, ◌≡◌, ◌+◌, ◌*◌, ◌<◌, ◌≤◌, true, not, if◌then◌else◌, List, map, slice_get, slice_index, IfSome}
use Rattle.raid_params.specs.declared.types.Cell.{Cell}
use Rattle.raid_terms.specs.Parity.{is_data}
use Rattle.raid_terms.specs.Solving.{lost_byte}

-- the cell, there where it is data and missing where it is parity
abbrev pub data_there : Cell → Cell
data_there cell = record { part = cell.part; missing = not (is_data cell.part) }

-- so it is for each cell
abbrev pub parity_lost : List Cell → List Cell
parity_lost cells = map data_there cells

-- in `count` sectors, from number `from` on, the regions of the data cells hold the bytes of these columns, and the
-- lost ones where a cell is missing
abbrev pub HoldAllData : List Cell → ℕ → ℕ → ℕ → List ℕ → (ℕ → ℕ → List ℕ) → Type 0
HoldAllData cells stride from count sectors column =
    (place : ℕ) → IfSome (slice_get cells place) (λ cell. is_data cell.part ≡ true → (j x : ℕ) → from ≤ j → j < from + count → x < 512 →
    slice_index sectors (stride * place + (512 * j + x)) ≡ (if cell.missing then lost_byte cells (column j x) place else slice_index (column j x) place))

-- in the same sectors the region of a place holds its lost bytes, by these columns
abbrev pub HoldLostAt : List Cell → ℕ → ℕ → ℕ → ℕ → List ℕ → (ℕ → ℕ → List ℕ) → Type 0
HoldLostAt cells stride from count place sectors column =
    (j x : ℕ) → from ≤ j → j < from + count → x < 512 → slice_index sectors (stride * place + (512 * j + x)) ≡ lost_byte cells (column j x) place
