-- How sectors of the volume come about.
use Rattle.std.specs.Prelude.{ℕ, ◌≡◌, ◌+◌, ◌*◌, ◌<◌, ◌≤◌, ◌%◌, Bool, ◌&&◌, not, true, false, List, length, slice_index}
use Rattle.std.specs.List.{count_by, range_with_len}
use Rattle.address_map.specs.declared.map.Home.{Home}
use Rattle.raid_params.specs.Size.{volume_sectors}
use Rattle.raid_params.specs.declared.types.Geometry.{Geometry}
use Rattle.raid_params.specs.declared.wide.Wide.{Wide}
use Rattle.raid_terms.specs.Address.{LiesAt, home_row}
use Rattle.raid_terms.specs.Parity.{column_of}
use Rattle.rescue_map.specs.Damaged.{damaged, is_beyond, is_lost, is_unknown}
use Rattle.rescue_map.specs.Salvaged.{filled_byte, salvaged_sector, AreKnown}
use Rattle.rescue_map.specs.declared.ways.Way.{Way}
use Rattle.rescue_map.specs.declared.ways.Way.TheVariants.{Known, Found, Lost}
use Rattle.rescue_text.specs.declared.section.Section.{Section}

-- how many sectors come about so
abbrev pub sectors_of : Way → ℕ
sectors_of (Known home count) = count
sectors_of (Found home row) = 1
sectors_of Lost = 1

-- how many of them are to be found by the known cells of their row
abbrev pub unsolved_of : Way → ℕ
unsolved_of (Known home count) = 0
unsolved_of (Found home row) = 1
unsolved_of Lost = 0

-- volume sector v is to be found by them: its home is not known, and it is not lost
abbrev pub is_to_find : List Section → Wide → ℕ → Bool
is_to_find sections set v = is_unknown sections set v && not (is_lost sections set v)

-- how many of n volume sectors from v on are
abbrev pub to_find : List Section → Wide → ℕ → ℕ → ℕ
to_find sections set v n = count_by (is_to_find sections set) (range_with_len v n)

-- n volume sectors from v on lie beside each other on one member, and their homes are known
pub record IsKnownRun (sections : List Section) (set : Wide) (v n : ℕ) (home : Home) : Type 0 where
  pub lies : LiesAt set.geo.head home.slot home.sector v
  pub chunk : v % set.geo.head.chunk + n ≤ set.geo.head.chunk
  pub known : AreKnown sections set v n

-- the home of volume sector v is not known, and no more cells of its row than the level survives
pub record IsFoundRow (sections : List Section) (set : Wide) (v : ℕ) (home : Home) (row : Geometry) : Type 0 where
  pub lies : LiesAt set.geo.head home.slot home.sector v
  pub at : home.row ≡ home_row set.geo.head v
  pub cells : row ≡ damaged sections set home.sector
  pub unknown : is_unknown sections set v ≡ true
  pub few : is_beyond sections set v ≡ false

-- how the volume sectors from v on come about
abbrev pub IsWay : List Section → Wide → ℕ → Way → Type 0
IsWay sections set v (Known home count) = IsKnownRun sections set v count home
IsWay sections set v (Found home row) = IsFoundRow sections set v home row
IsWay sections set v Lost = is_lost sections set v ≡ true

-- n volume sectors from v on, with room for them and for the row of the first, a sector a member
pub record IsPart (set : Wide) (end v n : ℕ) (row to : List ℕ) : Type 0 where
  pub within : v + n ≤ volume_sectors set.geo.head end
  pub members : length row ≡ 512 * length set.geo.slots.items
  pub long : length to ≡ 512 * n

-- n volume sectors from v on are found by what was read for them: themselves, or the row of the first
abbrev pub AreFound : List (List ℕ) → List Section → Wide → ℕ → ℕ → List ℕ → List ℕ → Type 0
AreFound images sections set v n row to =
    (i x : ℕ) (column : List ℕ) → i < n → x < 512 → (i ≡ 0 → column ≡ column_of (length set.geo.slots.items) row x) →
    filled_byte sections set (v + i) column (slice_index to (512 * i + x)) ≡ slice_index (salvaged_sector images sections set (v + i)) x

-- they were finished by what was read for them
abbrev pub AreFinished : List Section → Wide → ℕ → ℕ → List ℕ → List ℕ → List ℕ → Type 0
AreFinished sections set v n row old new =
    (i x : ℕ) (column : List ℕ) → i < n → x < 512 → (i ≡ 0 → column ≡ column_of (length set.geo.slots.items) row x) →
    slice_index new (512 * i + x) ≡ filled_byte sections set (v + i) column (slice_index old (512 * i + x))
