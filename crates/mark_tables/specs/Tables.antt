-- What the tables of marks hold.
use Rattle.std.specs.Prelude.{ℕ, ◌≡◌, ◌+◌, ◌<◌, Bool, true, false, List, [], length, slice_get, slice_index, slice_index_or}
use Rattle.std.specs.declared.option.Option.{Option}
use Rattle.std.specs.declared.option.Option.TheVariants.{Some}
use Rattle.raid_params.specs.Slots.{stands}
use Rattle.raid_params.specs.declared.limits.TheConstants.{MOST}
use Rattle.raid_params.specs.declared.types.Head.{Head}
use Rattle.landmark_rules.specs.Groups.{origins_for}
use Rattle.landmark_rules.specs.declared.marks.Group.{Group}
use Rattle.landmark_rules.specs.declared.marks.Mark.{Mark}
use Rattle.landmark_rules.specs.declared.marks.MarkTests.{MarkTests}
use Rattle.search_plan.specs.declared.plan.Plan.{Plan}
use Rattle.mark_tables.specs.Marks.{fits_at, misfits_at, most_from}
use Rattle.mark_tables.specs.declared.counts.SlotCount.{SlotCount}

-- a count with one mark more, that fits or misfits
abbrev pub one_more : Bool → SlotCount → SlotCount
one_more true count = record { fits = count.fits + 1; misfits = count.misfits; most = count.most }
one_more false count = record { fits = count.fits; misfits = count.misfits + 1; most = count.most }

-- what an image counts, and what it does in a slot
abbrev pub nothing_counted : SlotCount
nothing_counted = record { fits = 0; misfits = 0; most = 0 }

abbrev pub image_count : List SlotCount → ℕ → SlotCount
image_count counts image = slice_index_or counts image nothing_counted

abbrev pub count_at : List (List SlotCount) → ℕ → ℕ → SlotCount
count_at table slot image = image_count (slice_index_or table slot []) image

-- which images stand in a list of places
abbrev pub AreStanding : List (Option ℕ) → List Bool → Type 0
AreStanding places standing = (image : ℕ) → image < MOST → slice_index_or standing image false ≡ stands image places

-- the marks of each image that fit in a slot, and those that misfit
abbrev pub CountMarks : Head → ℕ → List Mark → ℕ → ℕ → List SlotCount → Type 0
CountMarks head end marks origin slot counts = (image : ℕ) (none : SlotCount) → image < MOST →
    ((slice_index_or counts image none).fits ≡ fits_at head end marks origin slot image)
    × ((slice_index_or counts image none).misfits ≡ misfits_at head end marks origin slot image)

-- the most that each image counts in one of the slots from this one on
abbrev pub AreMost : (ℕ → ℕ → ℕ) → ℕ → ℕ → List SlotCount → Type 0
AreMost count members slot counts = (image : ℕ) (none : SlotCount) → image < MOST → (slice_index_or counts image none).most ≡ most_from count members slot image

-- both, for each slot
abbrev pub IsOriginTable : Head → ℕ → List Mark → ℕ → List (List SlotCount) → Type 0
IsOriginTable head end marks origin table = (slot : ℕ) → slot < head.members →
    CountMarks head end marks origin slot (slice_index_or table slot []) × AreMost (fits_at head end marks origin) head.members slot (slice_index_or table slot [])

-- a table for each of some origins
pub record AreOriginTables (head : Head) (end : ℕ) (marks : List Mark) (origins : List ℕ) (tables : List (List (List SlotCount))) : Type 0 where
  pub long : length tables ≡ length origins
  pub each : (o : ℕ) → o < length origins → IsOriginTable head end marks (slice_index origins o) (slice_index_or tables o [])

-- one for each origin of a group
abbrev pub IsGroupTable : Head → ℕ → MarkTests → Group → List (List (List SlotCount)) → Type 0
IsGroupTable head end tests group tables = AreOriginTables head end group.marks (origins_for tests group.kind) tables

-- and for each group of a plan
pub record IsMarkTable (plan : Plan) (head : Head) (tables : List (List (List (List SlotCount)))) : Type 0 where
  pub long : length tables ≡ length plan.groups
  pub each : (g : ℕ) (group : Group) → slice_get plan.groups g ≡ Some group → IsGroupTable head plan.end plan.tests group (slice_index_or tables g [])
