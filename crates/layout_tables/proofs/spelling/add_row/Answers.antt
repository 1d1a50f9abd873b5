use Rattle.std.proofs.Common.{ℕ, List, [], ◌∷◌, ◌++◌, get_or, ap, ◌∙◌, arith}
use Rattle.layout_tables.specs.Cells.{cell_name}
use Rattle.layout_tables.proofs.Writing.{row_next}
use Rattle.layout_tables.proofs.spelling.add_row.Goals as goal

pub loop-at-preserved : goal.loop-at-preserved
loop-at-preserved c =
    let row = c.args.row.now in
    let at = c.loop-at.at in
    let name = cell_name (get_or row at 0) in
    let pushed = c.push.ensures.len in
    let more = c.add_cell-in-loop-at.ensures.few in
    record {
      name = c.add_cell-in-loop-at.ensures.name ∙ ap (λ (x : List ℕ). x ++ name) c.push.ensures.items
          ∙ ap (λ (x : List ℕ). (x ++ 46 ∷ []) ++ name) c.loop-at.invariant.name ∙ row_next c.args.text.now.items row at (omega arith) (omega arith);
      few = omega arith;
    }
