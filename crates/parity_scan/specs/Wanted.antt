-- Which images a run is read of.
use Rattle.std.specs.Prelude.{ℕ, ◌≡◌, ◌≢◌, ◌<◌, ◌⊎◌, Bool, true, false, List, length, slice_index_or}
use Rattle.std.specs.declared.option.Option.{Option}
use Rattle.std.specs.declared.option.Option.TheVariants.{None, Some}
use Rattle.raid_params.specs.declared.types.Geometry.{Geometry}
use Rattle.search_scope.specs.declared.scope.Scope.{Scope}
use Rattle.parity_scan.specs.ImageRows.{asks}
use Rattle.parity_scan.specs.declared.runs.Run.{Run}
use Rattle.parity_scan.specs.declared.tally.Tally.{Tally}

-- the image stands in none of the slots, or in one of them
abbrev pub HasNone : List (Option ℕ) → ℕ → Type 0
HasNone slots image = (slot : ℕ) → slice_index_or slots slot None ≢ Some image

abbrev pub HasOne : List (Option ℕ) → ℕ → Type 0
HasOne slots image = (slot : ℕ) × (slice_index_or slots slot None ≡ Some image)

-- it stands in no slot of those of the first n sets whose tallies ask for the run
abbrev pub IsNotWanted : Scope → List Geometry → List Tally → Run → ℕ → ℕ → Type 0
IsNotWanted scope sets tallies run n image =
    (k : ℕ) (d : Tally) (e : Geometry) → k < n → asks scope (slice_index_or sets k e) (slice_index_or tallies k d) run ≡ true → HasNone (slice_index_or sets k e).slots.items image

-- it stands in a slot of one of them
abbrev pub IsWanted : Scope → List Geometry → List Tally → Run → ℕ → ℕ → Type 0
IsWanted scope sets tallies run n image =
    (k : ℕ) × (k < n) × ((d : Tally) (e : Geometry) → (asks scope (slice_index_or sets k e) (slice_index_or tallies k d) run ≡ true) × HasOne (slice_index_or sets k e).slots.items image)

-- each of the first n slots holds the image of its own number where an asking tally needs it, and else nothing
abbrev pub AreWanted : Scope → List Geometry → List Tally → Run → List (Option ℕ) → ℕ → Type 0
AreWanted scope sets tallies run slots n =
    (i : ℕ) → i < n → ((slice_index_or slots i None ≡ Some i) × IsWanted scope sets tallies run (length sets) i)
    ⊎ ((slice_index_or slots i None ≡ None) × IsNotWanted scope sets tallies run (length sets) i)

-- an image that is not marked now was not before
abbrev pub KeepMarks : List Bool → List Bool → Type 0
KeepMarks old new = (image : ℕ) → slice_index_or new image false ≡ false → slice_index_or old image false ≡ false

-- one that is marked now was before, or this holds of it
abbrev pub MarkOnly : List Bool → List Bool → (ℕ → Type 0) → Type 0
MarkOnly old new holds = (image : ℕ) → slice_index_or new image false ≡ true → (slice_index_or old image false ≡ true) ⊎ holds image

-- the images that are marked are those that the first n tallies need
pub record MarkWanted (scope : Scope) (sets : List Geometry) (tallies : List Tally) (run : Run) (n : ℕ) (marks : List Bool) : Type 0 where
  pub all : (image : ℕ) → slice_index_or marks image false ≡ false → IsNotWanted scope sets tallies run n image
  pub only : (image : ℕ) → slice_index_or marks image false ≡ true → IsWanted scope sets tallies run n image
