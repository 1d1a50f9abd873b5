-- The volume of a mirror: which copy of each sector it is read from, and its bytes.
use Rattle.std.specs.Prelude.{ℕ, ◌/◌, ◌<◌, ◌≤◌, ◌≡◌, Bool, IsTrue, IsSome, length, slice_index_or}
use Rattle.std.specs.List.{find, range_with_len}
use Rattle.std.specs.Option.{is_none, is_some, unwrap_or}
use Rattle.std.specs.declared.option.Option.{Option}
use Rattle.std.specs.declared.option.Option.TheVariants.{None, Some}
use Rattle.near_mirror.specs.Copies.{copy_sector, copy_slot, near_area, near_chunks, near_sectors, slot_of}
use Rattle.near_mirror.specs.Heads.{is_valid_near}
use Rattle.near_mirror.specs.declared.map.CopyPlace.{CopyPlace}
use Rattle.near_mirror.specs.declared.types.NearSet.{NearSet}

-- the slot of a copy of a chunk holds an image
abbrev pub is_held : NearSet → ℕ → ℕ → Bool
is_held set chunk copy = is_some (slice_index_or set.slots.items (slot_of set.head.layout.copying set.head.members set.head.layout.copies copy chunk) None)

-- the first copy of a chunk whose slot holds an image
unfoldable pub held_copy : NearSet → ℕ → Option ℕ
held_copy set chunk = find (is_held set chunk) (range_with_len 0 set.head.layout.copies)

-- no slot of the chunk holds an image
abbrev pub is_bare : NearSet → ℕ → Bool
is_bare set chunk = is_none (held_copy set chunk)

-- the first chunk of the volume of which no slot holds an image
unfoldable pub first_bare : NearSet → ℕ → Option ℕ
first_bare set end = find (is_bare set) (range_with_len 0 (near_chunks set.head end))

-- the set has the shape of a mirror: a head that makes sense, as many members as slots, and of each chunk a copy
pub record IsMirror (set : NearSet) (end : ℕ) : Type 0 where
  pub head : IsTrue (is_valid_near set.head)
  pub members : set.head.members ≡ length set.slots.items
  pub held : first_bare set end ≡ None

-- what the slot of a copy of a volume sector holds
abbrev pub copy_image : NearSet → ℕ → ℕ → Option ℕ
copy_image set copy v = slice_index_or set.slots.items (copy_slot set.head copy v) None

-- the copy that a volume sector is read from: the first whose slot holds an image
abbrev pub home_copy : NearSet → ℕ → ℕ
home_copy set v = unwrap_or (held_copy set (v / set.head.chunk)) 0

-- a sector of the volume, with the place that it is read from, whose slot holds an image
pub record IsHome (set : NearSet) (end v : ℕ) (place : CopyPlace) : Type 0 where
  pub within : v < near_sectors set.head end
  pub slot : place.slot ≡ copy_slot set.head (home_copy set v) v
  pub sector : place.sector ≡ copy_sector set.head end (home_copy set v) v
  pub held : IsSome (slice_index_or set.slots.items place.slot None)
  pub inside : place.sector < near_area set.head end

-- the place that a volume sector is read from: none from the end of the volume on
abbrev pub HasHome : NearSet → ℕ → ℕ → Option CopyPlace → Type 0
HasHome set end v None = near_sectors set.head end ≤ v
HasHome set end v (Some place) = IsHome set end v place
