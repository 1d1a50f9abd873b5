-- Which sectors of a mirror of damaged images are known, and its volume.
use Rattle.std.specs.Prelude.{ℕ, ◌+◌, Bool, false, if◌then◌else◌, List, replicate}
use Rattle.std.specs.List.{find, flat_map, range_with_len}
use Rattle.std.specs.Option.{is_none, option_map_or}
use Rattle.std.specs.declared.option.Option.{Option}
use Rattle.std.specs.declared.option.Option.TheVariants.{None, Some}
use Rattle.block_device.specs.Reading.{Asked, is_any_lost}
use Rattle.near_mirror.specs.Copies.{copy_sector, near_sectors}
use Rattle.near_mirror.specs.Volume.{copy_image}
use Rattle.near_mirror.specs.declared.types.NearSet.{NearSet}
use Rattle.near_volume.specs.Sectors.{copy_bytes}
use Rattle.rescue_map.specs.Damaged.{is_good}
use Rattle.rescue_text.specs.declared.section.Section.{Section}

-- what a slot holds is an image of which this sector was read
abbrev pub is_good_held : List Section → Option ℕ → ℕ → Bool
is_good_held sections held sector = option_map_or (λ image. is_good sections image sector) held false

-- a copy of volume sector v is good: its slot holds an image, of which the sector there was read
abbrev pub is_good_copy : List Section → NearSet → ℕ → ℕ → ℕ → Bool
is_good_copy sections set end v copy = is_good_held sections (copy_image set copy v) (set.head.offset + copy_sector set.head end copy v)

-- the first good copy of volume sector v
unfoldable pub good_copy : List Section → NearSet → ℕ → ℕ → Option ℕ
good_copy sections set end v = find (is_good_copy sections set end v) (range_with_len 0 set.head.layout.copies)

-- volume sector v is lost: none of its copies is good
abbrev pub is_lost : List Section → NearSet → ℕ → ℕ → Bool
is_lost sections set end v = is_none (good_copy sections set end v)

-- volume sector v by the copy that is taken, or zeros where there is none
abbrev pub taken_copy : List (List ℕ) → NearSet → ℕ → ℕ → Option ℕ → List ℕ
taken_copy images set end v None = replicate 512 0
taken_copy images set end v (Some copy) = copy_bytes images set end v copy

-- volume sector v by its first good copy
abbrev pub mended_sector : List (List ℕ) → List Section → NearSet → ℕ → ℕ → List ℕ
mended_sector images sections set end v = taken_copy images set end v (good_copy sections set end v)

-- n sectors of the volume from a sector on
unfoldable pub mended_sectors : List (List ℕ) → List Section → NearSet → ℕ → ℕ → ℕ → List ℕ
mended_sectors images sections set end first n = flat_map (mended_sector images sections set end) (range_with_len first n)

-- the bytes of the volume
abbrev pub mended_volume : List (List ℕ) → List Section → NearSet → ℕ → List ℕ
mended_volume images sections set end = mended_sectors images sections set end 0 (near_sectors set.head end)

-- what sectors of it cost: as many of the images', or none where one of them is lost, and the read fails
abbrev pub mended_cost : List Section → NearSet → ℕ → Asked → Option ℕ
mended_cost sections set end asked = if is_any_lost (is_lost sections set end) asked then None else Some asked.count
