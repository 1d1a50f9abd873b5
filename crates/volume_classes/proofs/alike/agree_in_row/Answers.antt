use Rattle.std.proofs.Common.{◌≢◌, ◌∙◌, ℕ, sym, ap, inl, inr, arith}
use Rattle.std.proofs.lemmas.Bool.{cases_eq, iff_false}
use Rattle.raid_layouts.proofs.Shapes.{shaped_head}
use Rattle.volume_classes.specs.Coefficients.{coefficient}
use Rattle.volume_classes.proofs.Agreeing.{answers_false}
use Rattle.volume_classes.proofs.alike.agree_in_row.Goals as goal

pub returns-then-not-begin_alike : goal.returns-then-not-begin_alike
returns-then-not-begin_alike c =
    let few = c.data_blocks-item-end.ensures in
    let small = c.ranges.images in
    answers_false (λ agree. iff_false c.begin_alike.ensures c.if-not-begin_alike.true (λ image lt.
    c.put_coefficients.ensures.bytes image (omega arith) ∙ agree c.loop-item.item image (omega arith) lt ∙ sym (c.put_coefficients-in-loop-item.ensures.bytes image (omega arith))))

pub loop-item-preserved : goal.loop-item-preserved
loop-item-preserved c item image below lt =
    let small = c.ranges.images in
    elim (cases_eq item c.loop-item.item) [
      | inl same ↦ ap (λ (i : ℕ). coefficient c.args.one.now c.args.row i image) same
          ∙ sym (c.put_coefficients.ensures.bytes image (omega arith)) ∙ c.begin_alike.ensures.0 c.if-not-begin_alike.false image lt ∙ c.put_coefficients-in-loop-item.ensures.bytes image (omega arith)
          ∙ ap (λ (i : ℕ). coefficient c.args.other.now c.args.row i image) (sym same)
      | inr apart ↦ (let ne : item ≢ c.loop-item.item = apart in c.loop-item.invariant item image (omega arith) lt)
    ]

pub row_cells-one_cells-requires-clause-head : goal.row_cells-one_cells-requires-clause-head
row_cells-one_cells-requires-clause-head c = shaped_head c.args.one.now c.args.images c.requires.one

pub row_cells-other_cells-requires-clause-head : goal.row_cells-other_cells-requires-clause-head
row_cells-other_cells-requires-clause-head c = shaped_head c.args.other.now c.args.images c.requires.other

pub data_blocks-item-end-requires : goal.data_blocks-item-end-requires
data_blocks-item-end-requires c = shaped_head c.args.one.now c.args.images c.requires.one
