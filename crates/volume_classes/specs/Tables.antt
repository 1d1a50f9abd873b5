-- Tables of the coefficients of sets.
use Rattle.std.specs.Prelude.{ℕ, ◌≡◌, ◌<◌, ◌⊎◌, List, [], ◌∷◌, ◌++◌, length, slice_get}
use Rattle.std.specs.declared.option.Option.TheVariants.{None, Some}
use Rattle.raid_params.specs.Size.{rows}
use Rattle.raid_params.specs.Validity.{first_fault}
use Rattle.raid_params.specs.declared.types.Geometry.{Geometry}
use Rattle.volume_classes.specs.Alike.{AreAlike}
use Rattle.volume_classes.specs.Coefficients.{AgreeInRow, coefficients_of, told_rows}
use Rattle.volume_classes.specs.declared.tables.Table.{Table}

-- the table of a set that breaks no rule
pub record IsTable (images end : ℕ) (geo : Geometry) (table : Table) : Type 0 where
  pub ruled : first_fault geo images end ≡ None
  pub head : table.head ≡ geo.head
  pub coefficients : table.coefficients ≡ coefficients_of geo images end

-- it is the table of some set
abbrev pub HasSet : ℕ → ℕ → Table → Type 0
HasSet images end table = (geo : Geometry) × IsTable images end geo table

-- it is that of some set with such a row
pub record HasRow (images row : ℕ) (table : Table) : Type 0 where
  pub end : ℕ
  pub geo : Geometry
  pub is : IsTable images end geo table
  pub below : row < rows geo.head end

-- two sets have equal coefficients in the rows that tell
abbrev pub RowsAgree : Geometry → Geometry → ℕ → ℕ → Type 0
RowsAgree one other images end = (row : ℕ) → row < told_rows one.head other.head end → AgreeInRow one other images row

-- the sets of the table at this place and of another one are alike
abbrev pub TellsAlike : ℕ → ℕ → List Table → ℕ → Table → Type 0
TellsAlike images end tables place other =
    (table : Table) (a b : Geometry) → slice_get tables place ≡ Some table → IsTable images end a table → IsTable images end b other → AreAlike a b images end

-- or they are not
abbrev pub TellsNone : ℕ → ℕ → List Table → ℕ → Table → Type 0
TellsNone images end tables place other =
    (table : Table) (a b : Geometry) → slice_get tables place ≡ Some table → IsTable images end a table → IsTable images end b other → AreAlike a b images end → ⊥

-- the number of a class, by the tables of the first sets: that of a first set that is alike, or the next one, where none is
abbrev pub TellsClass : ℕ → ℕ → List Table → List Table → Table → ℕ → Type 0
TellsClass images end old new table number =
    ((new ≡ old) × (number < length old) × TellsAlike images end old number table)
    ⊎ ((new ≡ old ++ table ∷ []) × (number ≡ length old) × ((place : ℕ) → place < length old → TellsNone images end old place table))
