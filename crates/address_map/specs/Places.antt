-- What the answers of the address map say.
use Rattle.std.specs.Prelude.{ℕ, ◌≡◌, ◌<◌, ◌≤◌, ◌/◌, ◌⊎◌}
use Rattle.std.specs.declared.option.Option.{Option}
use Rattle.std.specs.declared.option.Option.TheVariants.{None, Some}
use Rattle.raid_params.specs.declared.types.Head.{Head}
use Rattle.raid_terms.specs.Address.{LiesAt, home_row, home_item}
use Rattle.raid_terms.specs.Role.{HasRole, P, Q}
use Rattle.raid_params.specs.Size.{area, volume_sectors}
use Rattle.address_map.specs.declared.map.Home.{Home}
use Rattle.address_map.specs.declared.map.MemberPlace.{MemberPlace}
use Rattle.address_map.specs.declared.map.MemberPlace.TheVariants.{Outside, Parity, At}

-- the place of a member sector: past the whole rows, on parity, or a sector of the volume
abbrev pub IsPlace : Head → ℕ → ℕ → ℕ → MemberPlace → Type 0
IsPlace head end slot sector Outside = area head end ≤ sector
IsPlace head end slot sector Parity = (sector < area head end) × (HasRole head (sector / head.chunk) slot P ⊎ HasRole head (sector / head.chunk) slot Q)
IsPlace head end slot sector (At v) = (sector < area head end) × LiesAt head slot sector v

-- a sector of the volume, with its row, its item and where it lies
pub record IsAt (head : Head) (end v : ℕ) (home : Home) : Type 0 where
  pub within : v < volume_sectors head end
  pub row : home.row ≡ home_row head v
  pub item : home.item ≡ home_item head v
  pub lies : LiesAt head home.slot home.sector v

-- the home of a volume sector: none from the end of the volume on
abbrev pub IsHome : Head → ℕ → ℕ → Option Home → Type 0
IsHome head end v None = volume_sectors head end ≤ v
IsHome head end v (Some home) = IsAt head end v home
