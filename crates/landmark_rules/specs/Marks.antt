-- Where the marks of images lie on the volume of a parameter set.
use Rattle.std.specs.Prelude.{ℕ, ◌+◌, false, ◌==◌, ◌&&◌, List, find, position, option_and_then}
use Rattle.std.specs.List.{range_with_len}
use Rattle.std.specs.Option.{option_map_or}
use Rattle.std.specs.declared.option.Option.{Option}
use Rattle.raid_params.specs.Size.{volume_sectors}
use Rattle.raid_params.specs.declared.types.Geometry.{Geometry}
use Rattle.raid_params.specs.declared.types.Head.{Head}
use Rattle.raid_terms.specs.Address.{home_sector, home_slot}
use Rattle.landmark_rules.specs.declared.marks.Mark.{Mark}

-- the volume sector whose home is this slot at this sector of its image, if there is one. No volume sector
-- has its home on parity, before the offset or past the whole rows
unfoldable pub sector_in : Head → ℕ → ℕ → ℕ → Option ℕ
sector_in head end slot sector =
    find (λ v. home_slot head v == slot && head.offset + home_sector head v == sector) (range_with_len 0 (volume_sectors head end))

-- the slot that holds an image, if one does
unfoldable pub slot_holding : ℕ → List (Option ℕ) → Option ℕ
slot_holding image slots = position (λ held. option_map_or (λ i. i == image) held false) slots

-- the volume sector at which a mark lies, where its image stands in a slot and its sector holds data
abbrev pub sector_of : Geometry → ℕ → Mark → Option ℕ
sector_of geo end mark = option_and_then (λ slot. sector_in geo.head end slot mark.sector) (slot_holding mark.image geo.slots.items)
