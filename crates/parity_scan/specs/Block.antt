-- The rows of regions, and how many may be unsound still.
use Rattle.std.specs.Prelude.{ℕ, ◌+◌, ◌/◌, Bool, not, length, count_by}
use Rattle.std.specs.List.{range_with_len}
use Rattle.raid_params.specs.declared.types.Geometry.{Geometry}
use Rattle.raid_terms.specs.Cells.{row_cells}
use Rattle.raid_terms.specs.Parity.{is_sound}
use Rattle.row_parity.specs.Regions.{region_column}
use Rattle.member_regions.specs.Regions.{Room}

-- the sectors number j of the regions are a sound row, where the regions begin at member sector `first`
unfoldable pub is_sound_in : Geometry → Room → ℕ → ℕ → Bool
is_sound_in geo room first j = is_sound (row_cells geo ((first + j) / geo.head.chunk)) (region_column (length geo.slots.items) room.stride room.bytes j)

-- how many of the first n rows of the regions are unsound
unfoldable pub unsound_in : Geometry → Room → ℕ → ℕ → ℕ
unsound_in geo room first n = count_by (λ j. not (is_sound_in geo room first j)) (range_with_len 0 n)
