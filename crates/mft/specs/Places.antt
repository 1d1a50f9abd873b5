-- Where file records lie by a table: from the sector on at which the volume begins.
use Rattle.std.specs.Prelude.{ℕ, ◌+◌, ◌-◌, ◌*◌, ◌/◌, ◌^◌, max, List, [], ◌∷◌, Bool, false, ◌&&◌, ◌==◌, nat_le, nat_lt, length, All, IsTrue, Option, Some, None, option_and_then, if◌then◌else◌}
use Rattle.std.specs.Option.{option_map}
use Rattle.mft.specs.Boot.{is_near}
use Rattle.mft.specs.Runs.{is_near_run, runs_of}
use Rattle.mft.specs.declared.boot.MftBoot.{MftBoot}
use Rattle.mft.specs.declared.places.MftPlace.{MftPlace}
use Rattle.mft.specs.declared.places.MftTable.{MftTable}
use Rattle.mft.specs.declared.runs.Run.{Run}

-- the sectors of a run, in clusters of so many sectors
abbrev pub run_sectors : ℕ → Run → ℕ
run_sectors cluster run = run.count * cluster

-- where so many sectors of a run lie, by how many of it are before them, if it has all of them
unfoldable pub place_within : ℕ → Run → ℕ → ℕ → Option ℕ
place_within cluster run before sectors = if nat_le (before + sectors) (run_sectors cluster run) then Some (run.first * cluster + before) else None

-- where so many sectors of a table lie, by how many of it are before them: all in one run
unfoldable pub place_in : ℕ → List Run → ℕ → ℕ → Option ℕ
place_in cluster [] before sectors = None
place_in cluster (run ∷ runs) before sectors =
    if nat_lt before (run_sectors cluster run) then place_within cluster run before sectors
    else place_in cluster runs (before - run_sectors cluster run) sectors

-- the sectors of a record
abbrev pub record_sectors : MftBoot → ℕ
record_sectors boot = boot.bytes / 512

-- how many records the mirror repeats: 4, or as many as a cluster has if those are more
unfoldable pub mirrored : MftBoot → ℕ
mirrored boot = max 4 (boot.cluster * 512 / boot.bytes)

-- where the mirror has a record
abbrev pub mirror_sector : MftBoot → ℕ → ℕ
mirror_sector boot number = boot.mirror * boot.cluster + number * record_sectors boot

-- where it lies a second time, if the mirror repeats it, below 2^55
unfoldable pub second_place : MftBoot → ℕ → Option ℕ
second_place boot number = if nat_lt number (mirrored boot) && nat_lt (mirror_sector boot number) (2 ^ 55) then Some (mirror_sector boot number) else None

-- where a table has a record, if it does: once, or twice
unfoldable pub place_of : MftTable → ℕ → Option MftPlace
place_of table number =
    option_map (λ first. record { first = first; second = second_place table.boot number })
    (place_in table.boot.cluster table.runs.items (number * record_sectors table.boot) (record_sectors table.boot))

-- the runs begin where the boot sector says
unfoldable pub begins_at : ℕ → List Run → Bool
begins_at cluster [] = false
begins_at cluster (run ∷ runs) = run.first == cluster

-- the table of a volume by its record 0, whose bytes these are: it is believed only if it begins there, and has the size of the
-- volume's records
unfoldable pub table_with : MftBoot → List Run → Option MftTable
table_with boot runs = if begins_at boot.mft runs then Some (record { boot = boot; runs = record { items = runs } }) else None

unfoldable pub table_of : MftBoot → List ℕ → Option MftTable
table_of boot file = if length file == boot.bytes then option_and_then (table_with boot) (runs_of boot.cluster file) else None

-- the numbers of a table are within limits
pub record IsTable (table : MftTable) : Type 0 where
  pub boot : IsTrue (is_near table.boot)
  pub runs : All (λ run. IsTrue (is_near_run table.boot.cluster run)) table.runs.items
