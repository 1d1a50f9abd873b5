use Rattle.std.proofs.Common.{ℕ, Bool, not, nat_eq, slice_index_or, List, sym, ◌∙◌, rules, tests}
use Rattle.std.proofs.lemmas.Iterator.{YieldsList-from_slice}
use Rattle.std.proofs.lemmas.Iterator.Search.{any_from_yields_List}
use Rattle.arrayvec.specs.ArrayVec.{ArrayVec}
use Rattle.layout_tables.specs.Shape.{is_used}
use Rattle.layout_tables.proofs.ShapeLemmas.{list_any-map}
use Rattle.layout_tables.proofs.shape.is_used.Goals as goal

pub returns : goal.returns
unfolding is_used
returns c =
    let Used : List ℕ → Bool = λ (row : List ℕ). not (nat_eq (slice_index_or row c.args.slot 26) 26) in
    any_from_yields_List (λ (row : ArrayVec ℕ). not (nat_eq (slice_index_or row.items c.args.slot 26) 26)) _ _ _ c.any.ensures.ran (YieldsList-from_slice c.args.rows.now cc) (λ x b q k. search (rules, tests))
    ∙ sym (list_any-map Used (λ (row : ArrayVec ℕ). row.items) c.args.rows.now)
