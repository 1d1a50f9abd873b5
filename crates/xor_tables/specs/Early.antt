-- What the tables of rows hold that are made in one reading, which may end early.
use Rattle.std.specs.Prelude.{ℕ, ◌≡◌, ◌*◌, ◌<◌, ◌≤◌, ◌⊎◌, min, true, List, [], length, slice_index, slice_index_or, All, IsSomeAnd}
use Rattle.std.specs.declared.option.Option.{Option}
use Rattle.raid_params.specs.declared.types.Head.{Head}
use Rattle.raid_params.specs.declared.types.Level.{Level}
use Rattle.raid_params.specs.declared.types.Level.TheVariants.{Raid0, Raid5, Raid6}
use Rattle.search_plan.specs.declared.plan.Plan.{Plan}
use Rattle.xor_tables.specs.Paces.{pace_at, pace_of, span}
use Rattle.xor_tables.specs.Rows.{needs_table}
use Rattle.xor_tables.specs.declared.pace.Pace.{Pace}
use Rattle.xor_tables.specs.Xors.{AreFew, CountRows, RowTable}
use Rattle.search_plan.specs.Rows.{tested_with}

-- a table is settled for a level: more rows break than may, whatever images stand on Q, in each of the turns that have a
-- tested row
abbrev pub IsSettledFor : Plan → Pace → ℕ → RowTable → Level → Type 0
IsSettledFor plan pace offset table Raid0 = Unit {0}
IsSettledFor plan pace offset table Raid5 = plan.limits.badrows < table.all
IsSettledFor plan pace offset table Raid6 = (k i : ℕ) → k < length plan.lengths.items → i < length plan.lengths.items →
    k * span pace < tested_with plan pace.chunk offset → plan.limits.badrows < slice_index (slice_index_or table.beside k []) i

-- it is for each level of the plan
abbrev pub IsSettled : Plan → Pace → ℕ → RowTable → Type 0
IsSettled plan pace offset table = All (IsSettledFor plan pace offset table) plan.bounds.levels.items

-- a table of a plan, a pace and an offset, over the bytes of the images, that may have ended early: it counts the
-- tested rows, or as many of the first of them as settle it
pub record IsEarlyTable (images : List (List ℕ)) (plan : Plan) (pace : Pace) (offset : ℕ) (table : RowTable) : Type 0 where
  pub rows : ℕ
  pub within : rows ≤ tested_with plan pace.chunk offset
  pub counts : CountRows images (length plan.lengths.items) (span pace) offset rows table
  pub enough : (rows ≡ tested_with plan pace.chunk offset) ⊎ IsSettled plan pace offset table

-- a table for each of some paces
pub record AreEarlyTables (images : List (List ℕ)) (plan : Plan) (paces : List Pace) (offset : ℕ) (tables : List RowTable) : Type 0 where
  pub long : length tables ≡ length paces
  pub each : (c : ℕ) (none : RowTable) → c < length paces → IsEarlyTable images plan (pace_at paces c) offset (slice_index_or tables c none)

-- there is such a table where a head needs one
abbrev pub HasEarlyTable : List (List ℕ) → Plan → Head → Option RowTable → Type 0
HasEarlyTable images plan head early = needs_table plan head ≡ true → IsSomeAnd early (λ table. IsEarlyTable images plan (pace_of head) head.offset table)

-- each table counts those of the tested rows of its chunk that lie before row `first`
abbrev pub CountFirst : List (List ℕ) → Plan → List Pace → ℕ → ℕ → List RowTable → Type 0
CountFirst images plan paces offset first tables = (c : ℕ) (none : RowTable) → c < length paces →
    CountRows images (length plan.lengths.items) (span (pace_at paces c)) offset (min first (tested_with plan (pace_at paces c).chunk offset)) (slice_index_or tables c none)

-- after `first` rows, each table counts all that are tested, or is settled
abbrev pub AreKnown : Plan → List Pace → ℕ → ℕ → List RowTable → Type 0
AreKnown plan paces offset first tables = (c : ℕ) (none : RowTable) → c < length paces →
    (tested_with plan (pace_at paces c).chunk offset ≤ first) ⊎ IsSettled plan (pace_at paces c) offset (slice_index_or tables c none)

-- no count of any of the tables is above this
abbrev pub AreAllFew : ℕ → List RowTable → Type 0
AreAllFew most tables = All (AreFew most) tables
