-- How large a mirror is, and where the copies of a volume sector lie.
use Rattle.std.specs.Prelude.{ℕ, ◌+◌, ◌-◌, ◌*◌, ◌/◌, ◌%◌, ◌≡◌, ◌<◌, ◌≤◌, ◌⊎◌, min}
use Rattle.std.specs.declared.option.Option.{Option}
use Rattle.std.specs.declared.option.Option.TheVariants.{None, Some}
use Rattle.near_mirror.specs.declared.map.CopyPlace.{CopyPlace}
use Rattle.near_mirror.specs.declared.types.Copying.{Copying}
use Rattle.near_mirror.specs.declared.types.Copying.TheVariants.{Near, Far, Offset}
use Rattle.near_mirror.specs.declared.types.NearHead.{NearHead}

-- whole rows of chunks before the image sector `end`: none where the offset is past it
abbrev pub near_rows : NearHead → ℕ → ℕ
near_rows head end = (end - head.offset) / head.chunk

-- the sectors of a member in whole rows
abbrev pub near_area : NearHead → ℕ → ℕ
near_area head end = near_rows head end * head.chunk

-- the chunks of so many members of so many rows. Near copies take one cell after another; of the others each copy has
-- as many whole rows as the next
abbrev pub chunks_of : Copying → ℕ → ℕ → ℕ → ℕ
chunks_of Near members copies rows = (rows * members) / copies
chunks_of Far members copies rows = (rows / copies) * members
chunks_of Offset members copies rows = (rows / copies) * members

-- chunks of the volume
abbrev pub near_chunks : NearHead → ℕ → ℕ
near_chunks head end = chunks_of head.layout.copying head.members head.layout.copies (near_rows head end)

-- the chunks of the volume, but for those after as many as there are members: these stand on the slots of the first ones
abbrev pub first_chunks : NearHead → ℕ → ℕ
first_chunks head end = min (near_chunks head end) head.members

-- sectors of the volume
abbrev pub near_sectors : NearHead → ℕ → ℕ
near_sectors head end = near_chunks head end * head.chunk

-- the cell of a copy of a chunk where the copies are near: cells are numbered row by row
abbrev pub copy_cell : ℕ → ℕ → ℕ → ℕ
copy_cell copies chunk copy = copies * chunk + copy

-- the slot of a copy of a chunk
abbrev pub slot_of : Copying → ℕ → ℕ → ℕ → ℕ → ℕ
slot_of Near members copies copy chunk = copy_cell copies chunk copy % members
slot_of Far members copies copy chunk = (chunk + copy) % members
slot_of Offset members copies copy chunk = (chunk + copy) % members

-- the row of a copy of a chunk: far copies each have a part of the rows, and an offset copy lies a row below the one before
abbrev pub row_of : Copying → ℕ → ℕ → ℕ → ℕ → ℕ → ℕ
row_of Near members copies rows copy chunk = copy_cell copies chunk copy / members
row_of Far members copies rows copy chunk = chunk / members + copy * (rows / copies)
row_of Offset members copies rows copy chunk = copies * (chunk / members) + copy

-- the slot of a copy of a volume sector
abbrev pub copy_slot : NearHead → ℕ → ℕ → ℕ
copy_slot head copy v = slot_of head.layout.copying head.members head.layout.copies copy (v / head.chunk)

-- the row of a copy of a volume sector
abbrev pub copy_row : NearHead → ℕ → ℕ → ℕ → ℕ
copy_row head end copy v = row_of head.layout.copying head.members head.layout.copies (near_rows head end) copy (v / head.chunk)

-- the member sector of a copy of a volume sector
abbrev pub copy_sector : NearHead → ℕ → ℕ → ℕ → ℕ
copy_sector head end copy v = copy_row head end copy v * head.chunk + v % head.chunk

-- a copy of a volume sector lies here, on a slot of the members and in the whole rows
pub record IsCopy (head : NearHead) (end v copy : ℕ) (place : CopyPlace) : Type 0 where
  pub within : v < near_sectors head end
  pub among : copy < head.layout.copies
  pub slot : place.slot ≡ copy_slot head copy v
  pub sector : place.sector ≡ copy_sector head end copy v
  pub held : place.slot < head.members
  pub inside : place.sector < near_area head end

-- the place of a copy of a volume sector: none from the end of the volume on, and of no more copies than there are
abbrev pub HasCopy : NearHead → ℕ → ℕ → ℕ → Option CopyPlace → Type 0
HasCopy head end v copy None = (near_sectors head end ≤ v) ⊎ (head.layout.copies ≤ copy)
HasCopy head end v copy (Some place) = IsCopy head end v copy place
