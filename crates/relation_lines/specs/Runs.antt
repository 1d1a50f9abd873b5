-- Rows that were looked at, and runs of neighbouring ones with the same table.
use Rattle.std.specs.Prelude.{ℕ, ◌&&◌, nat_eq, Bool, List, [], ◌∷◌, if◌then◌else◌}
use lib.Pointwise.{pointwise}
use Rattle.row_relations.specs.Tables.{Table}
use Rattle.row_relations.specs.declared.standing.Standing.{Standing}
use Rattle.row_relations.specs.declared.standing.Standing.TheVariants.{Zero, Independent, Dependent}

-- a row: its number, and the table of the sectors of the images there
pub record Row : Type 0 where
  pub sector : ℕ
  pub table : Table

-- a run: the first row, the last one, and the table of all
pub record Run : Type 0 where
  pub first : ℕ
  pub last : ℕ
  pub table : Table

abbrev pub standing_number : Standing → ℕ
standing_number Zero = 0
standing_number Independent = 1
standing_number Dependent = 2

abbrev pub same_standing : Standing → Standing → Bool
same_standing one other = nat_eq (standing_number one) (standing_number other)

abbrev pub same_table : Table → Table → Bool
same_table one other = pointwise same_standing one.standings other.standings && pointwise (pointwise nat_eq) one.weights other.weights

abbrev pub run_at : Row → Run
run_at row = record { first = row.sector; last = row.sector; table = row.table }

abbrev pub longer : Run → Row → Run
longer run row = record { first = run.first; last = row.sector; table = row.table }

-- a run goes on while rows have its table
abbrev pub runs_from : Run → List Row → List Run
runs_from run [] = run ∷ []
runs_from run (row ∷ rows) = if same_table run.table row.table then runs_from (longer run row) rows else run ∷ runs_from (run_at row) rows

abbrev pub runs_of : List Row → List Run
runs_of [] = []
runs_of (row ∷ rows) = runs_from (run_at row) rows
