-- The bytes of the volume of an array, and of a missing member.
use Rattle.std.specs.Prelude.{ℕ, ◌/◌, List, map, slice_index_or}
use Rattle.std.specs.List.{flat_map, range_with_len}
use Rattle.std.specs.declared.option.Option.{Option}
use Rattle.std.specs.declared.option.Option.TheVariants.{None, Some}
use Rattle.raid_params.specs.declared.types.Geometry.{Geometry}
use Rattle.raid_params.specs.Size.{area, volume_sectors}
use Rattle.raid_terms.specs.Address.{home_sector, home_slot}
use Rattle.raid_terms.specs.Cells.{row_cells}
use Rattle.raid_terms.specs.Parity.{member_byte, member_column}
use Rattle.raid_terms.specs.Solving.{lost_byte}

-- byte x of member sector t of a slot: that of the image which it holds, or the lost byte where it is
-- empty
abbrev pub byte_in : List (List ℕ) → Geometry → ℕ → ℕ → ℕ → Option ℕ → ℕ
byte_in images geo t slot x (Some i) = member_byte images geo.head.offset t x (Some i)
byte_in images geo t slot x None = lost_byte (row_cells geo (t / geo.head.chunk)) (member_column images geo t x) slot

-- member sector t of a slot
unfoldable pub member_sector : List (List ℕ) → Geometry → ℕ → ℕ → List ℕ
member_sector images geo slot t = map (λ x. byte_in images geo t slot x (slice_index_or geo.slots.items slot None)) (range_with_len 0 512)

-- volume sector v: the member sector of its home
abbrev pub volume_sector : List (List ℕ) → Geometry → ℕ → List ℕ
volume_sector images geo v = member_sector images geo (home_slot geo.head v) (home_sector geo.head v)

-- the bytes of the volume: all its sectors, in order
abbrev pub volume : List (List ℕ) → Geometry → ℕ → List ℕ
volume images geo end = flat_map (volume_sector images geo) (range_with_len 0 (volume_sectors geo.head end))

-- the bytes of the member of a slot: all its sectors in whole rows, in order
abbrev pub member : List (List ℕ) → Geometry → ℕ → ℕ → List ℕ
member images geo end slot = flat_map (member_sector images geo slot) (range_with_len 0 (area geo.head end))
