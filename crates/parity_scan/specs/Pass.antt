-- A pass over the images, run by run.
use Rattle.std.specs.Prelude.{ℕ, ◌≡◌, ◌+◌, ◌*◌, ◌<◌, ◌≤◌, ◌^◌, max, true, List, length, slice_index_or, Result, Ok, Err, All, IfSome, IsSomeAnd}
use Rattle.std.specs.List.{list_any}
use Rattle.std.specs.declared.option.Option.{Option}
use Rattle.std.specs.declared.option.Option.TheVariants.{None, Some}
use Rattle.outside.specs.Seen.{Image, Seen, OnlyReads}
use Rattle.raid_params.specs.declared.types.Geometry.{Geometry}
use Rattle.raid_terms.specs.Parity.{passes_parity, unsound_rows}
use Rattle.search_scope.specs.declared.scope.Scope.{Scope}
use Rattle.member_regions.specs.Members.{IsTestable}
use Rattle.member_regions.specs.Regions.{IsRoomFor, Room}
use Rattle.member_regions.specs.declared.regions.TheConstants.{BLOCK}
use Rattle.parity_scan.specs.ImageRows.{asks, rows_before, rows_of, HoldsSet}
use Rattle.parity_scan.specs.Tallies.{is_open, AllTallies}
use Rattle.parity_scan.specs.Verdicts.{offsets_of}
use Rattle.parity_scan.specs.Windows.{is_in_window, sectors_below}
use Rattle.parity_scan.specs.declared.runs.Run.{Run}
use Rattle.parity_scan.specs.declared.tally.Tally.{Tally}
use Rattle.parity_scan.specs.declared.tally.Tally.TheVariants.{Left, Passes, Fails}

-- a set whose rows can be counted in a search by this scope
pub record IsScanned (scope : Scope) (geo : Geometry) : Type 0 where
  pub set : IsTestable geo
  pub offset : geo.head.offset < 2 ^ 55
  pub near : scope.end < 2 ^ 55

-- the run of an open set's rows from a sector on, or none are left
abbrev pub IsOwnRun : Scope → Geometry → Tally → ℕ → Option Run → Type 0
IsOwnRun scope geo tally at None = is_open tally ≡ true → rows_before scope geo at ≡ rows_of scope geo
IsOwnRun scope geo tally at (Some run) = (run.first ≡ max at geo.head.offset) × (1 ≤ run.count) × (run.count ≤ BLOCK)
    × (run.first + run.count ≤ geo.head.offset + rows_of scope geo)

-- a run that is there begins no later than another that is there
abbrev pub IsNotLater : Option Run → Option Run → Type 0
IsNotLater one other = IfSome other (λ b. IsSomeAnd one (λ a. a.first ≤ b.first))

-- of the first n sets no open one has rows left from a sector on
abbrev pub NothingLeft : Scope → List Geometry → List Tally → ℕ → ℕ → Type 0
NothingLeft scope sets tallies n at = (i : ℕ) (d : Tally) (e : Geometry) → i < n → is_open (slice_index_or tallies i d) ≡ true →
    rows_before scope (slice_index_or sets i e) at ≡ rows_of scope (slice_index_or sets i e)

-- the run is no longer than a block, and lies in the window of one of the sets, before the end; of the first n sets no open one has rows
-- before it, from a sector on
pub record IsNextRun (scope : Scope) (sets : List Geometry) (tallies : List Tally) (n at : ℕ) (run : Run) : Type 0 where
  pub later : at ≤ run.first
  pub some : 1 ≤ run.count
  pub most : run.count ≤ BLOCK
  pub within : run.first + run.count ≤ scope.end
  pub in_window : (s : ℕ) → run.first ≤ s → s < run.first + run.count → list_any (is_in_window scope.end scope.limits.window s) (offsets_of sets) ≡ true
  pub skipped : (i : ℕ) (d : Tally) (e : Geometry) → i < n → is_open (slice_index_or tallies i d) ≡ true →
      rows_before scope (slice_index_or sets i e) at ≡ rows_before scope (slice_index_or sets i e) run.first

-- the set passes the parity test, or more of its rows are unsound than may be
abbrev pub MeetsTest : List (List ℕ) → Scope → Geometry → Type 0
MeetsTest images scope geo = passes_parity images geo scope.end scope.limits.window scope.limits.badrows ≡ true

abbrev pub FailsTest : List (List ℕ) → Scope → Geometry → Type 0
FailsTest images scope geo = scope.limits.badrows < unsound_rows images geo (rows_of scope geo)

-- a tally up to an image sector: how many more rows may be unsound after those before it, or what the set's test says
abbrev pub TalliesTo : List (List ℕ) → Scope → ℕ → Geometry → Tally → Type 0
TalliesTo images scope at geo (Left left) = unsound_rows images geo (rows_before scope geo at) + left ≡ scope.limits.badrows
TalliesTo images scope at geo Passes = MeetsTest images scope geo
TalliesTo images scope at geo Fails = FailsTest images scope geo

-- a tally of some of the rows before an image sector: no more are counted than are unsound
abbrev pub TalliesSome : List (List ℕ) → Scope → ℕ → Geometry → Tally → Type 0
TalliesSome images scope at geo (Left left) = scope.limits.badrows ≤ unsound_rows images geo (rows_before scope geo at) + left
TalliesSome images scope at geo Passes = MeetsTest images scope geo
TalliesSome images scope at geo Fails = FailsTest images scope geo

-- a tally of all rows
abbrev pub TalliesAll : List (List ℕ) → Scope → Geometry → Tally → Type 0
TalliesAll images scope geo (Left left) = unsound_rows images geo (rows_of scope geo) + left ≡ scope.limits.badrows
TalliesAll images scope geo Passes = MeetsTest images scope geo
TalliesAll images scope geo Fails = FailsTest images scope geo

-- the tallies up to a sector, or those of all rows
abbrev pub SweptTo : List (List ℕ) → Scope → List Geometry → Option ℕ → List Tally → Type 0
SweptTo images scope sets None tallies = AllTallies (TalliesAll images scope) sets tallies
SweptTo images scope sets (Some sector) tallies = AllTallies (TalliesTo images scope sector) sets tallies

-- what is asked of the sets, the images and the room of a scan
pub record CanScan (scope : Scope) (sets : List Geometry) (attached : List Image) (room : Room) : Type 0 where
  pub scanned : All (IsScanned scope) sets
  pub there : All (λ geo. All (λ slot. IfSome slot (λ image. image < length attached)) geo.slots.items) sets
  pub near : scope.end < 2 ^ 55
  pub planned : length attached ≡ length scope.lengths.items
  pub long : All (λ image. scope.end ≤ image.sectors) attached
  pub regions : IsRoomFor (length scope.lengths.items) BLOCK room

-- a run that can be read at once
pub record IsReadable (scope : Scope) (run : Run) : Type 0 where
  pub some : 1 ≤ run.count
  pub most : run.count ≤ BLOCK
  pub within : run.first + run.count ≤ scope.end

-- the regions hold what the asking tallies need
abbrev pub HoldAsked : List (List ℕ) → Scope → List Geometry → List Tally → Run → Room → Type 0
HoldAsked images scope sets tallies run room =
    (i : ℕ) (d : Tally) (e : Geometry) → i < length sets → asks scope (slice_index_or sets i e) (slice_index_or tallies i d) run ≡ true → HoldsSet images run room (slice_index_or sets i e)

-- how many sectors of the sets' windows lie before an image sector
abbrev pub windows_before : Scope → List Geometry → ℕ → ℕ
windows_before scope sets sector = sectors_below scope.end scope.limits.window (offsets_of sets) sector

-- the sector up to which the pass has come
abbrev pub reached : {E : Type 0} → ℕ → Result (Option ℕ) E → ℕ
reached end (Ok (Some sector)) = sector
reached end (Ok None) = end
reached end (Err fault) = end

-- of each image no more was read than the sectors of the sets' windows from one up to another
pub record ReadsWindows (old new : Seen) (scope : Scope) (sets : List Geometry) (from to : ℕ) : Type 0 where
  pub each : ℕ
  pub reads : OnlyReads old new (length old.attached * each)
  pub within : windows_before scope sets from + each ≤ windows_before scope sets to

-- a tally that is settled stays so, and each other begins with `left` rows that may be unsound
abbrev pub IsAnew : ℕ → Tally → Tally → Type 0
IsAnew left (Left k) new = new ≡ Left left
IsAnew left Passes new = new ≡ Passes
IsAnew left Fails new = new ≡ Fails

abbrev pub BeginAnew : ℕ → List Tally → List Tally → Type 0
BeginAnew left old new = (i : ℕ) (d : Tally) → i < length old → IsAnew left (slice_index_or old i d) (slice_index_or new i d)
