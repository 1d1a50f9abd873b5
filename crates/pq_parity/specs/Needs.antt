-- Which blocks of a row its data are found by.
use Rattle.std.specs.Prelude.{ℕ, ◌≡◌, ◌≢◌, ◌+◌, ◌*◌, ◌<◌, ◌≤◌, Bool, true, false, nat_le, ◌&&◌, ◌||◌, List, length, count_by, slice_get, slice_index, IfSome}
use Rattle.std.specs.List.{list_any}
use Rattle.raid_params.specs.declared.types.Cell.{Cell}
use Rattle.raid_params.specs.declared.types.Part.{Part}
use Rattle.raid_params.specs.declared.types.Part.TheVariants.{Block, P, Q}
use Rattle.raid_terms.specs.Parity.{is_data, is_p}
use Rattle.raid_terms.specs.Solving.{lost_byte}
use Rattle.row_parity.specs.Regions.{region_column}

-- how many data blocks are missing
abbrev pub lost_data : List Cell → ℕ
lost_data cells = count_by (λ c. c.missing && is_data c.part) cells

-- P is missing
abbrev pub is_p_lost : List Cell → Bool
is_p_lost cells = list_any (λ c. c.missing && is_p c.part) cells

-- what the data of a row are found by: the present data, P where a data block is missing, and Q where P alone does not
-- tell it
abbrev pub needs : List Cell → Part → Bool
needs cells (Block k) = true
needs cells P = nat_le 1 (lost_data cells)
needs cells Q = nat_le 2 (lost_data cells) || (nat_le 1 (lost_data cells) && is_p_lost cells)

-- two columns agree in what the data are found by
abbrev pub AgreeInNeeded : List Cell → List ℕ → List ℕ → Type 0
AgreeInNeeded cells bytes others =
    (place : ℕ) → IfSome (slice_get cells place) (λ cell. cell.missing ≡ false → needs cells cell.part ≡ true → slice_index bytes place ≡ slice_index others place)

-- `count` sectors of the regions, from number `from` on, agree so with these columns
abbrev pub AgreeInRows : List Cell → ℕ → ℕ → ℕ → List ℕ → (ℕ → ℕ → List ℕ) → Type 0
AgreeInRows cells stride from count sectors column =
    (j x : ℕ) → from ≤ j → j < from + count → x < 512 → AgreeInNeeded cells (region_column (length cells) stride sectors j x) (column j x)

-- in the same sectors the region of each missing data cell holds its lost bytes, by these columns
abbrev pub HoldLostData : List Cell → ℕ → ℕ → ℕ → List ℕ → (ℕ → ℕ → List ℕ) → Type 0
HoldLostData cells stride from count sectors column =
    (place : ℕ) → IfSome (slice_get cells place) (λ cell. cell.missing ≡ true → is_data cell.part ≡ true →
    (j x : ℕ) → from ≤ j → j < from + count → x < 512 → slice_index sectors (stride * place + (512 * j + x)) ≡ lost_byte cells (column j x) place)

-- a byte that lies in no such sector is as it was
abbrev pub KeepAllBut : List Cell → ℕ → ℕ → ℕ → List ℕ → List ℕ → Type 0
KeepAllBut cells stride from count old new =
    (p : ℕ) → ((place : ℕ) → IfSome (slice_get cells place) (λ cell. cell.missing ≡ true → is_data cell.part ≡ true →
    (j x : ℕ) → from ≤ j → j < from + count → x < 512 → p ≢ stride * place + (512 * j + x))) → slice_index new p ≡ slice_index old p

-- columns of these sectors, with a byte for each cell
abbrev pub AreWhole : List Cell → ℕ → ℕ → (ℕ → ℕ → List ℕ) → Type 0
AreWhole cells from count column = (j x : ℕ) → from ≤ j → j < from + count → x < 512 → length (column j x) ≡ length cells
