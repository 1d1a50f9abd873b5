-- How large an array is.
use Rattle.std.specs.Prelude.{ℕ, ◌-◌, ◌*◌, ◌/◌}
use Rattle.raid_params.specs.declared.types.Head.{Head}
use Rattle.raid_params.specs.declared.types.Level.{Level}
use Rattle.raid_params.specs.declared.types.Level.TheVariants.{Raid0, Raid5, Raid6}

-- how many lost members a level survives
abbrev pub redundancy : Level → ℕ
redundancy Raid0 = 0
redundancy Raid5 = 1
redundancy Raid6 = 2

-- whole rows of chunks before the image sector `end`: none where the offset is past it
abbrev pub rows : Head → ℕ → ℕ
rows head end = (end - head.offset) / head.chunk

-- the sectors of a member in whole rows
abbrev pub area : Head → ℕ → ℕ
area head end = rows head end * head.chunk

-- data blocks in a row
abbrev pub data_blocks : Head → ℕ
data_blocks head = head.members - redundancy head.level

-- sectors of the volume: a member's sectors in whole rows, for each data block of a row
abbrev pub volume_sectors : Head → ℕ → ℕ
volume_sectors head end = area head end * data_blocks head
