use Rattle.std.proofs.Common.{◌≤◌, ℕ, List, [], ◌∷◌, ◌++◌, length, sym, subst, ap, ◌∙◌, arith}
use Rattle.std.proofs.lemmas.List.{take_all}
use Rattle.layout_tables.specs.Cells.{AreCells}
use Rattle.layout_tables.specs.Spelling.{row_name, table_name}
use Rattle.layout_tables.specs.Tables.{row_at, rows_of}
use Rattle.layout_tables.proofs.TableLemmas.{period_few, period_is}
use Rattle.layout_tables.proofs.Writing.{row_cells, table_first, table_next}
use Rattle.layout_tables.proofs.table.Table.spell.Goals as goal

pub add_row-requires-clause-cells : goal.add_row-requires-clause-cells
add_row-requires-clause-cells c = subst AreCells (sym c.row.ensures.bytes) (row_cells c.args.self.now 0)

pub loop-at-init : goal.loop-at-init
loop-at-init c =
    let first = c.row.result.now in
    let begun = c.new-text.ensures in
    let pushed = c.push.ensures.len in
    let more = c.add_row.ensures.few in
    record {
      name = c.add_row.ensures.name ∙ ap (λ (x : List ℕ). x ++ row_name first) (c.push.ensures.items ∙ ap (λ (x : List ℕ). x ++ 61 ∷ []) begun)
          ∙ table_first c.args.self.now first c.row.ensures.bytes;
      few = omega (arith, ap (length {A = ℕ}) begun);
    }

pub add_row-requires-in-loop-at-clause-cells : goal.add_row-requires-in-loop-at-clause-cells
add_row-requires-in-loop-at-clause-cells c = subst AreCells (sym c.row-in-loop-at.ensures.bytes) (row_cells c.args.self.now c.from.result)

pub add_row-requires-in-loop-at-clause-room : goal.add_row-requires-in-loop-at-clause-room
add_row-requires-in-loop-at-clause-room c =
    let most = period_few c.args.self.now in
    let few = c.loop-at.invariant.few in
    let pushed = c.push-in-loop-at.ensures.len in
    omega arith

pub loop-at-preserved : goal.loop-at-preserved
loop-at-preserved c =
    let table = c.args.self.now in
    let row = c.row-in-loop-at.result.now in
    let few = c.loop-at.invariant.few in
    let pushed = c.push-in-loop-at.ensures.len in
    let more = c.add_row-in-loop-at.ensures.few in
    record {
      name = c.add_row-in-loop-at.ensures.name ∙ ap (λ (x : List ℕ). x ++ row_name row) c.push-in-loop-at.ensures.items
          ∙ ap (λ (x : List ℕ). (x ++ 47 ∷ []) ++ row_name row) c.loop-at.invariant.name
          ∙ table_next table row c.loop-at.at (omega arith) (omega arith) (c.row-in-loop-at.ensures.bytes ∙ ap (λ (n : ℕ). row_at table n) c.from.ensures);
      few = omega arith;
    }

pub returns : goal.returns
returns c =
    let rows = rows_of c.args.self.now in
    let whole : length rows ≤ c.loop-at.at = omega (arith, period_is c.args.self.now) in
    c.loop-at.invariant.name ∙ ap table_name (take_all c.loop-at.at rows whole)
