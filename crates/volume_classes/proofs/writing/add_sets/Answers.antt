use Rattle.std.proofs.Common.{◌++◌, ◌∙◌, ℕ, List, ap, get_or, arith}
use Rattle.raid_params.specs.declared.types.Geometry.{Geometry}
use Rattle.value_text.specs.SetText.{common, set_line}
use Rattle.volume_classes.proofs.ClassLines.{lines_more}
use Rattle.volume_classes.proofs.writing.add_sets.Goals as goal

pub loop-place-preserved : goal.loop-place-preserved
loop-place-preserved c =
    let same = c.requires in
    let n = get_or c.args.numbers.now c.loop-place.place 0 in
    c.in_ok-extend_from_slice.ensures.ok
    ∙ ap (λ (bytes : List ℕ). c.loop-place.text ++ bytes) (c.as_slice.ensures ∙ c.in_ok-line.ensures)
    ∙ ap (λ (bytes : List ℕ). bytes ++ set_line (get_or c.args.numbers.now c.loop-place.place 0) (common c.index-sets-place.result)) c.loop-place.invariant
    ∙ lines_more c.args.text.now (set_line (get_or c.args.numbers.now c.loop-place.place 0) (common c.index-sets-place.result)) c.args.numbers.now c.args.sets.now c.loop-place.place c.index-sets-place.result (omega arith) (omega arith)
    (ap (λ (g : Geometry). set_line (get_or c.args.numbers.now c.loop-place.place 0) (common g)) c.index-sets-place.is)
