-- What is said row by row is what is said of all rows.
use Rattle.std.proofs.Common.{◌≡◌, ℕ, ◌+◌, Bool, true, false, cond, List, [], ◌∷◌, ◌++◌, length, map, Option, None, Some, unwrap_or, refl, sym, ap, ap₂, ◌∙◌, arith, append_assoc, append-nil}
use Rattle.std.proofs.lemmas.List.Sums.{sum_by-cons}
use Rattle.relation_lines.specs.Reports.{Line, State, after, after_all, free_in, is_free, last_line, lines_at, lines_end, parts_in, report_of, run_after, said_by, start_of, summary_of}
use Rattle.relation_lines.specs.Reports.Line.{Rows}
use Rattle.relation_lines.specs.Runs.{Row, Run, longer, run_at, runs_from, same_table}
use Rattle.relation_lines.specs.Sets.{parts_of}
use Rattle.relation_lines.specs.declared.style.Style.{Style}

abbrev from_first : ℕ → Row → Run
from_first first row = record { first = first; last = row.sector; table = row.table }

-- a run goes on with a row, or ends before it
run_is : (b : Bool) (run : Run) (row : Row) → from_first (unwrap_or (cond b (Some run.first) None) row.sector) row ≡ cond b (longer run row) (run_at row)
run_is true run row = refl
run_is false run row = refl

-- the line of a run that ends, and those of the rows from there on
run_cases : (b : Bool) (run : Run) (row : Row) (rows : List Row) (rest : List Line) →
    cond b [] (Rows run ∷ []) ++ (map Rows (runs_from (cond b (longer run row) (run_at row)) rows) ++ rest) ≡ map Rows (cond b (runs_from (longer run row) rows) (run ∷ runs_from (run_at row) rows)) ++ rest
run_cases true run row rows rest = refl
run_cases false run row rows rest = refl

free_more : (row : Row) (rows : List Row) → free_in (row ∷ rows) ≡ cond (is_free row.table) 1 0 + free_in rows
free_more row rows = sum_by-cons (λ (r : Row). cond (is_free r.table) 1 0) row rows

summary_same : (images : ℕ) (xs ys : List ℕ) (a b m n : ℕ) → xs ≡ ys → a ≡ b → m ≡ n → summary_of images xs a m ≡ summary_of images ys b n
summary_same images xs ys a b m n e f g = ap (λ (l : List ℕ). summary_of images l a m) e ∙ ap₂ (λ (i j : ℕ). summary_of images ys i j) f g

-- what is said while a run goes on
said_from : (state : State) (run : Run) (rows : List Row) → state.run ≡ Some run →
    said_by state rows ++ lines_end (after_all state rows) ≡ map Rows (runs_from run rows) ++ summary_of state.images (state.sets ++ parts_in rows) (state.free + free_in rows) (state.rows + length rows)
said_from state run [] is =
    ap (λ (r : Option Run). last_line r ++ summary_of state.images state.sets state.free state.rows) is
    ∙ ap (λ (l : List Line). Rows run ∷ l) (summary_same state.images state.sets (state.sets ++ []) state.free (state.free + 0) state.rows (state.rows + 0) (sym (append-nil state.sets)) (omega arith) (omega arith))
said_from state run (row ∷ rows) is =
    let next = after state row in
    let same = same_table run.table row.table in
    let then : Run = cond same (longer run row) (run_at row) in
    let goes : next.run ≡ Some then = ap (λ (r : Run). Some r) (ap (λ (r : Option Run). run_after r row) is ∙ run_is same run row) in
    let sum = summary_of state.images (next.sets ++ parts_in rows) (next.free + free_in rows) (next.rows + length rows) in
    let more = free_more row rows in
    append_assoc (lines_at state.run row) (said_by next rows) (lines_end (after_all next rows))
    ∙ ap (λ (l : List Line). lines_at state.run row ++ l) (said_from next then rows goes)
    ∙ ap (λ (r : Option Run). lines_at r row ++ (map Rows (runs_from then rows) ++ sum)) is
    ∙ run_cases same run row rows sum
    ∙ ap (λ (l : List Line). map Rows (runs_from run (row ∷ rows)) ++ l)
    (summary_same state.images (next.sets ++ parts_in rows) (state.sets ++ parts_in (row ∷ rows)) (next.free + free_in rows) (state.free + free_in (row ∷ rows)) (next.rows + length rows) (state.rows + length (row ∷ rows))
    (append_assoc state.sets (parts_of row.table) (parts_in rows)) (omega (arith, more)) (omega arith))

-- what a report says row by row, and at its end, is the report of the rows
pub said_is : (style : Style) (images room : ℕ) (rows : List Row) → said_by (start_of style images room) rows ++ lines_end (after_all (start_of style images room) rows) ≡ report_of images rows
said_is style images room [] = refl
said_is style images room (row ∷ rows) =
    let more = free_more row rows in
    said_from (after (start_of style images room) row) (run_at row) rows refl
    ∙ ap (λ (l : List Line). map Rows (runs_from (run_at row) rows) ++ l)
    (summary_same images (parts_of row.table ++ parts_in rows) (parts_in (row ∷ rows)) _ (free_in (row ∷ rows)) _ (length (row ∷ rows)) refl (omega (arith, more)) (omega arith))
