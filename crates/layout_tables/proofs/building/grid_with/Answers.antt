use Rattle.std.proofs.Common.{◌≡◌, ℕ, List, set, take, ap, ◌∙◌, arith}
use Rattle.layout_tables.specs.Cells.{cells_in}
use Rattle.layout_tables.specs.Shape.{grid_of, padded}
use Rattle.layout_tables.proofs.ShapeLemmas.{grid_next}
use Rattle.layout_tables.proofs.building.grid_with.Goals as goal

pub loop-at-preserved : goal.loop-at-preserved
loop-at-preserved c =
    let rows = c.args.rows.now in
    let at = c.loop-at.at in
    let row : c.padded.result ≡ padded c.index-rows-at.result.items = c.padded.ensures ∙ ap (λ (bytes : List ℕ). padded bytes) c.as_slice.ensures.value in
    ap (λ (grid : List (List ℕ)). set grid at c.padded.result) c.loop-at.invariant
    ∙ ap (λ (bytes : List ℕ). set (grid_of (cells_in (take at rows))) at bytes) row
    ∙ grid_next rows at c.index-rows-at.result (omega arith) (omega arith) c.index-rows-at.is
