-- How the test of a parameter set stands.
use Rattle.std.specs.Prelude.{ℕ, ◌≡◌, ◌<◌, Bool, true, false, if◌then◌else◌, List, length, slice_index_or, IfSome}
use Rattle.std.specs.List.{list_any}
use Rattle.std.specs.declared.option.Option.{Option}
use Rattle.raid_params.specs.declared.types.Geometry.{Geometry}
use Rattle.raid_terms.specs.Parity.{passes_parity}
use Rattle.search_scope.specs.declared.scope.Scope.{Scope}
use Rattle.parity_scan.specs.Scan.{is_unbreakable}
use Rattle.parity_scan.specs.declared.tally.Tally.{Tally}
use Rattle.parity_scan.specs.declared.tally.Tally.TheVariants.{Left, Passes, Fails}

-- rows of the set may decide its test yet
abbrev pub is_open : Tally → Bool
is_open (Left left) = true
is_open Passes = false
is_open Fails = false

-- the set passes, by the rows that are counted
abbrev pub has_passed : Tally → Bool
has_passed (Left left) = true
has_passed Passes = true
has_passed Fails = false

-- no tally is open
abbrev pub NoneOpen : List Tally → Type 0
NoneOpen tallies = list_any is_open tallies ≡ false

-- each tally that is not open stays as it is
abbrev pub KeepSettled : List Tally → List Tally → Type 0
KeepSettled old new = (i : ℕ) (d : Tally) → i < length old → is_open (slice_index_or old i d) ≡ false → slice_index_or new i d ≡ slice_index_or old i d

-- something holds of each set and its tally
abbrev pub AllTallies : (Geometry → Tally → Type 0) → List Geometry → List Tally → Type 0
AllTallies holds sets tallies = (i : ℕ) (d : Tally) (e : Geometry) → i < length sets → holds (slice_index_or sets i e) (slice_index_or tallies i d)

-- the tally with which a scan of a set begins: it passes where nothing can break one of its rows
abbrev pub unbroken_tally : Scope → Geometry → Tally
unbroken_tally scope geo = if is_unbreakable geo then Passes else Left scope.limits.badrows

-- before a scan all rows of a set are to be tested, or it passes the parity test over the bytes of the images, where they
-- are known
abbrev pub BeginsAs : Option (List (List ℕ)) → Scope → Geometry → Tally → Type 0
BeginsAs told scope geo (Left left) = left ≡ scope.limits.badrows
BeginsAs told scope geo Passes = IfSome told (λ bytes. passes_parity bytes geo scope.end scope.limits.window scope.limits.badrows ≡ true)
BeginsAs told scope geo Fails = ⊥
