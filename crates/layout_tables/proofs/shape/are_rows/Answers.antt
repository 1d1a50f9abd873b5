use Rattle.std.proofs.Common.{ℕ, sym, ◌∙◌, rules, tests}
use Rattle.std.proofs.lemmas.Iterator.{YieldsList-from_slice}
use Rattle.std.proofs.lemmas.Iterator.Search.{all_from_yields_List}
use Rattle.std.proofs.lemmas.List.Folds.{list_all-map}
use Rattle.arrayvec.specs.ArrayVec.{ArrayVec}
use Rattle.layout_tables.specs.Shape.{is_row}
use Rattle.layout_tables.proofs.shape.are_rows.Goals as goal

pub returns : goal.returns
returns c =
    all_from_yields_List (λ (row : ArrayVec ℕ). is_row c.args.first.now row.items) _ _ _ c.all.ensures.ran (YieldsList-from_slice c.args.rows.now cc) (λ x b q k. search (rules, tests))
    ∙ sym (list_all-map (is_row c.args.first.now) (λ (row : ArrayVec ℕ). row.items) c.args.rows.now)
