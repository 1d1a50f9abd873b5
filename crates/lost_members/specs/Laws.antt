-- How much is read for a volume or a lost member.
use Rattle.std.specs.Prelude.{ℕ, ◌≡◌, ◌*◌, true}
use Rattle.raid_params.specs.declared.types.Geometry.{Geometry}
use Rattle.raid_params.specs.Size.{area, data_blocks, volume_sectors}
use Rattle.raid_params.specs.Validity.{is_shaped}
use Rattle.lost_members.specs.Needs.{needed_sectors}

-- in any rows as many member sectors are needed as there are data, whichever members are lost
abbrev pub NeedsAsManyAsData : Type 0
NeedsAsManyAsData = (geo : Geometry) (images first n : ℕ) → is_shaped geo images ≡ true → needed_sectors geo first n ≡ n * data_blocks geo.head

-- in all rows as many as the volume has sectors
abbrev pub NeedsAsManyAsTheVolume : Type 0
NeedsAsManyAsTheVolume = (geo : Geometry) (images end : ℕ) → is_shaped geo images ≡ true → needed_sectors geo 0 (area geo.head end) ≡ volume_sectors geo.head end
