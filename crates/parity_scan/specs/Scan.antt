-- What is asked of a parameter set whose rows are tested, and why a test ends.
use Rattle.std.specs.Prelude.{◌≡◌, ◌≤◌, ◌<◌, ◌^◌, ◌==◌, if◌then◌else◌, ℕ, Bool, true, List, length, All}
use Rattle.outside.specs.Causes.{Rose}
use Rattle.outside.specs.Seen.{Image, Seen}
use Rattle.raid_params.specs.Size.{redundancy}
use Rattle.raid_params.specs.Slots.{empties}
use Rattle.raid_params.specs.Validity.{is_shaped}
use Rattle.raid_params.specs.declared.types.Geometry.{Geometry}
use Rattle.raid_terms.specs.Parity.{tested_rows}
use Rattle.parity_scan.specs.declared.one_set.ScanFault.{ScanFault}
use Rattle.parity_scan.specs.declared.one_set.ScanFault.TheVariants.{ReadFault, Memory}

-- a set whose rows can be tested: it has a sensible shape over the attached images, which all reach to the end
pub record IsScannable (geo : Geometry) (end : ℕ) (attached : List Image) : Type 0 where
  pub shaped : is_shaped geo (length attached) ≡ true
  pub offset : geo.head.offset < 2 ^ 55
  pub near : end < 2 ^ 55
  pub long : All (λ image. end ≤ image.sectors) attached

-- nothing can break a row of the set: as many slots are empty as the level has blocks of parity in a row
abbrev pub is_unbreakable : Geometry → Bool
is_unbreakable geo = empties geo.slots.items == redundancy geo.head.level

-- how many of its rows are read for the parity test: those that are tested, and none where nothing can break a row
abbrev pub read_rows : Geometry → ℕ → ℕ → ℕ
read_rows geo end window = if is_unbreakable geo then 0 else tested_rows geo end window

-- the images failed, or it is out of memory and nothing was read
abbrev pub EndsScan : Seen → Seen → ScanFault → Type 0
EndsScan old new ReadFault = Rose old.faults new.faults
EndsScan old new Memory = new ≡ old
