-- What is asked of a damaged volume that is read.
use Rattle.std.specs.Prelude.{ℕ, ◌≡◌, ◌*◌, ◌<◌, ◌≤◌, ◌+◌, List, length, IfSome}
use Rattle.std.specs.declared.option.Option.{Option}
use Rattle.outside.specs.Seen.{Image}
use Rattle.raid_params.specs.declared.wide.Wide.{Wide}
use Rattle.raid_terms.specs.Address.{home_sector}
use Rattle.rescue_map.specs.Damaged.{AreAllGood}
use Rattle.rescue_map.specs.Salvaged.{salvaged_sectors}
use Rattle.rescue_text.specs.declared.section.Section.{Section}
use Rattle.volume_device.specs.Kept.{CanRead, most_kept}
use Rattle.volume_device.specs.declared.kept.Kept.{Kept}

-- A damaged volume can be read up to an image sector: its set breaks no rule over the attached images, the memory has room for what is kept of
-- each member, and what it keeps is theirs; and the row is room for a sector of each member
pub record CanReadDamaged (set : Wide) (end : ℕ) (attached : List Image) (memory : Kept) (row : List ℕ) : Type 0 where
  pub can : CanRead set.geo end (most_kept set.geo.head) attached memory
  pub room : length row ≡ 512 * length set.geo.slots.items

-- in the rows of n volume sectors from a sector on all members are good
abbrev pub AreGoodRows : List Section → Wide → ℕ → ℕ → Type 0
AreGoodRows sections set first n = (v : ℕ) → first ≤ v → v < first + n → AreAllGood sections set (home_sector set.geo.head v)

-- the bytes are n sectors of the salvaged volume from a sector on, where the images are known
abbrev pub AreSectorsOf : Option (List (List ℕ)) → List Section → Wide → ℕ → ℕ → List ℕ → Type 0
AreSectorsOf told sections set first n bytes = IfSome told (λ images. bytes ≡ salvaged_sectors images sections set first n)
