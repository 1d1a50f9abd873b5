-- Laws of reports.
use Rattle.std.specs.Prelude.{ℕ, ◌≡◌, ◌≤◌, ◌<◌, ◌&&◌, true, List, ◌++◌, count_by, length}
use Rattle.row_relations.specs.Rows.{AreBytes}
use Rattle.row_relations.specs.Tables.{IsTable, Table, standing_of}
use Rattle.relation_lines.specs.Reports.{after_all, lines_end, report_of, said_by, start_of}
use Rattle.relation_lines.specs.Runs.{Row}
use Rattle.relation_lines.specs.Sets.{is_dependent, is_in, parts_of, tie_of}
use Rattle.relation_lines.specs.Tables.{table_of}
use Rattle.relation_lines.specs.declared.style.Style.{Style}

-- the lines that are said row by row, and those after all rows, are the report of the rows
abbrev pub ReportsAreOfAllRows : Type 0
ReportsAreOfAllRows = (style : Style) (images room : ℕ) (rows : List Row) → said_by (start_of style images room) rows ++ lines_end (after_all (start_of style images room) rows) ≡ report_of images rows

-- the table of a row is the one that is computed
abbrev pub TablesAreComputed : Type 0
TablesAreComputed = (images : ℕ) (sectors : List ℕ) (table : Table) → images ≤ 64 → AreBytes sectors → IsTable images sectors table → table ≡ table_of images sectors

-- no image is in two parts of a row
abbrev pub PartsShareNoImage : Type 0
PartsShareNoImage = (table : Table) (image : ℕ) → count_by (λ part. is_in part image) (parts_of table) ≤ 1

-- two images that a tie of the row connects are in one part
abbrev pub TiesLieInParts : Type 0
TiesLieInParts = (table : Table) (image one other : ℕ) → image < length table.standings → is_dependent (standing_of table image) ≡ true →
    is_in (tie_of table image) one ≡ true → is_in (tie_of table image) other ≡ true → 1 ≤ count_by (λ part. is_in part one && is_in part other) (parts_of table)
