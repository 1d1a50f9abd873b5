-- The rows of a set where a block of image sectors is in memory: a region for each image.
use Rattle.std.specs.Prelude.{ℕ, ◌≡◌, ◌+◌, ◌-◌, ◌*◌, ◌<◌, Bool, true, false, nat_lt, ◌&&◌, min, List, [], length, slice_index, slice_index_or, All, IfSome, ◌^◌}
use Rattle.std.specs.declared.option.Option.TheVariants.{None, Some}
use Rattle.raid_params.specs.declared.types.Geometry.{Geometry}
use Rattle.raid_terms.specs.Parity.{tested_rows, unsound_rows}
use Rattle.search_scope.specs.declared.scope.Scope.{Scope}
use Rattle.member_regions.specs.Members.{IsTestable}
use Rattle.member_regions.specs.Regions.{Room}
use Rattle.parity_scan.specs.Tallies.{is_open}
use Rattle.parity_scan.specs.declared.runs.Run.{Run}
use Rattle.parity_scan.specs.declared.tally.Tally.{Tally}
use Rattle.parity_scan.specs.declared.tally.Tally.TheVariants.{Left, Passes, Fails}

-- the tested rows of a set in a search by this scope
abbrev pub rows_of : Scope → Geometry → ℕ
rows_of scope geo = tested_rows geo scope.end scope.limits.window

-- how many of them lie before an image sector
abbrev pub rows_before : Scope → Geometry → ℕ → ℕ
rows_before scope geo sector = min (rows_of scope geo) (sector - geo.head.offset)

-- the region of an image holds the sectors of a run
abbrev pub HoldsImage : List (List ℕ) → Run → Room → ℕ → Type 0
HoldsImage images run room image =
    (y : ℕ) → y < 512 * run.count → slice_index room.bytes (room.stride * image + y) ≡ slice_index (slice_index_or images image []) (512 * run.first + y)

-- so do the regions of the images of a set
abbrev pub HoldsSet : List (List ℕ) → Run → Room → Geometry → Type 0
HoldsSet images run room geo = (slot image : ℕ) → slice_index_or geo.slots.items slot None ≡ Some image → HoldsImage images run room image

-- of the rows from one up to another no more are unsound than may be, and k may be still; or more are
abbrev pub IsLeftAfter : List (List ℕ) → Geometry → ℕ → ℕ → ℕ → Tally → Type 0
IsLeftAfter images geo from to left (Left k) = unsound_rows images geo to + k ≡ unsound_rows images geo from + left
IsLeftAfter images geo from to left Passes = ⊥
IsLeftAfter images geo from to left Fails = unsound_rows images geo from + left < unsound_rows images geo to

-- an open tally whose set has tested rows in the run asks for it
abbrev pub asks : Scope → Geometry → Tally → Run → Bool
asks scope geo tally run = is_open tally && nat_lt (rows_before scope geo run.first) (rows_before scope geo (run.first + run.count))

-- so many rows may be unsound still
abbrev pub IfLeft : Tally → (ℕ → Type 0) → Type 0
IfLeft (Left left) holds = holds left
IfLeft Passes holds = Unit {0}
IfLeft Fails holds = Unit {0}

-- a tally after the rows of a run: as before where it does not ask, and else with the set's rows in the run, over the
-- bytes of any images whose sectors the regions hold
pub record AddsRun (scope : Scope) (geo : Geometry) (run : Run) (room : Room) (old new : Tally) : Type 0 where
  pub kept : asks scope geo old run ≡ false → new ≡ old
  pub added : asks scope geo old run ≡ true → (images : List (List ℕ)) → HoldsSet images run room geo →
      IfLeft old (λ left. IsLeftAfter images geo (rows_before scope geo run.first) (rows_before scope geo (run.first + run.count)) left new)

-- so it is for each tally, of the sets from number `start` on
abbrev pub AddAll : Scope → List Geometry → ℕ → Run → Room → List Tally → List Tally → Type 0
AddAll scope sets start run room old new =
    (i : ℕ) (d : Tally) (e : Geometry) → i < length old → AddsRun scope (slice_index_or sets (start + i) e) run room (slice_index_or old i d) (slice_index_or new i d)

-- the rows of the set can be tallied over these regions: each of its images has one
pub record IsTallied (room : Room) (geo : Geometry) : Type 0 where
  pub set : IsTestable geo
  pub offset : geo.head.offset < 2 ^ 55
  pub images : All (λ slot. IfSome slot (λ image. image < room.members)) geo.slots.items
