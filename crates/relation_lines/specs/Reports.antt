-- What is said of rows: a line for each run, and what is common to all.
use Rattle.std.specs.Prelude.{ℕ, ◌-◌, ◌/◌, ◌%◌, ◌^◌, ◌+◌, nat_eq, Bool, not, List, [], ◌∷◌, ◌++◌, bit_or, if◌then◌else◌, length, map, take, count_by, unwrap_or}
use Rattle.std.specs.List.{flat_map, fold}
use Rattle.std.specs.declared.option.Option.{Option}
use Rattle.std.specs.declared.option.Option.TheVariants.{None, Some}
use Rattle.row_relations.specs.Tables.{Table}
use Rattle.relation_lines.specs.Runs.{Row, Run, runs_of, same_table}
use Rattle.relation_lines.specs.Sets.{is_in, parts_of, set_where}
use Rattle.relation_lines.specs.Shared.{shares_of}
use Rattle.relation_lines.specs.declared.style.Style.{Style}

-- a line: a run of rows; a set of images that so many rows connect; how many more such sets there are; the images in no tie; how many of all
-- rows have no tie
pub data Line : Type 0 where
  Rows : (run : Run) → Line
  Together : (set rows : ℕ) → Line
  Others : (sets : ℕ) → Line
  Alone : (set : ℕ) → Line
  Free : (free rows : ℕ) → Line

-- the most sets that are said
abbrev pub most_sets : ℕ
most_sets = 4096

abbrev pub together : ℕ → Line
together share = Together (share % 2 ^ 64) (share / 2 ^ 64)

abbrev pub others : ℕ → List Line
others sets = if nat_eq sets 0 then [] else Others sets ∷ []

-- no image of the row is dependent
abbrev pub is_free : Table → Bool
is_free table = nat_eq (length (parts_of table)) 0

-- the parts of all rows, one after the other
abbrev pub parts_in : List Row → List ℕ
parts_in rows = flat_map (λ row. parts_of row.table) rows

abbrev pub free_in : List Row → ℕ
free_in rows = count_by (λ row. is_free row.table) rows

-- what is common to all rows of so many images, by the parts of all, how many are free, and how many there are
abbrev pub summary_of : ℕ → List ℕ → ℕ → ℕ → List Line
summary_of images sets free rows =
    map together (take most_sets (shares_of sets))
    ++ others (length (shares_of sets) - most_sets)
    ++ Alone (set_where images (λ image. not (is_in (fold bit_or 0 sets) image)))
    ∷ Free free rows
    ∷ []

-- what is said of rows of so many images
abbrev pub report_of : ℕ → List Row → List Line
report_of images rows = map Rows (runs_of rows) ++ summary_of images (parts_in rows) (free_in rows) (length rows)

-- what a report knows once it has taken some rows: how it is written, of how many images, the run that may still go on, the parts of
-- all rows, how many rows were free, how many there were, and how many more it has room for
pub record State : Type 0 where
  pub style : Style
  pub images : ℕ
  pub run : Option Run
  pub sets : List ℕ
  pub free : ℕ
  pub rows : ℕ
  pub room : ℕ

abbrev pub start_of : Style → ℕ → ℕ → State
start_of style images rows = record { style = style; images = images; run = None; sets = []; free = 0; rows = 0; room = rows }

-- the first row of the run that goes on with a row
abbrev pub goes_on : Option Run → Row → Option ℕ
goes_on None row = None
goes_on (Some run) row = if same_table run.table row.table then Some run.first else None

abbrev pub run_after : Option Run → Row → Run
run_after run row = record { first = unwrap_or (goes_on run row) row.sector; last = row.sector; table = row.table }

-- the line of a run that ends before a row
abbrev pub lines_at : Option Run → Row → List Line
lines_at None row = []
lines_at (Some run) row = if same_table run.table row.table then [] else Rows run ∷ []

-- one row more
abbrev pub after : State → Row → State
after state row = record {
  style = state.style;
  images = state.images;
  run = Some (run_after state.run row);
  sets = state.sets ++ parts_of row.table;
  free = state.free + (if is_free row.table then 1 else 0);
  rows = state.rows + 1;
  room = state.room - 1;
}

abbrev pub last_line : Option Run → List Line
last_line None = []
last_line (Some run) = Rows run ∷ []

-- the lines after all rows
abbrev pub lines_end : State → List Line
lines_end state = last_line state.run ++ summary_of state.images state.sets state.free state.rows

-- what is known, and what was said, once rows were taken
abbrev pub after_all : State → List Row → State
after_all state [] = state
after_all state (row ∷ rows) = after_all (after state row) rows

abbrev pub said_by : State → List Row → List Line
said_by state [] = []
said_by state (row ∷ rows) = lines_at state.run row ++ said_by (after state row) rows
