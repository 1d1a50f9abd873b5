use Rattle.std.proofs.Common.{◌∙◌, ◌++◌, [], ◌∷◌, List, take, sym, ap, subst}
use Rattle.std.proofs.lemmas.List.{take_more}
use Rattle.head_walk.specs.declared.parts.Line.{Line}
use Rattle.page_engine.specs.Lines.{AddsPadded}
use Rattle.page_engine.proofs.Shifted.{adds_none, adds_one, adds_skip}
use Rattle.page_engine.proofs.lines.add_lines.Goals.{in-Some+in_ok-push, in_default}
use Rattle.page_engine.proofs.lines.add_lines.Goals as goal

pub loop-line-init : goal.loop-line-init
loop-line-init c = adds_none c.args.part.now c.args.first c.args.lines.now

pub loop-line-preserved : goal.loop-line-preserved
loop-line-preserved c =
    let more = take_more c.args.found.now c.loop-line.line-index c.line-item.result c.loop-line-test.true ∙ ap (λ (l : Line). take c.loop-line.line-index c.args.found.now ++ l ∷ []) (sym c.line-item.is) in
    let P : List Line → Type 0 = λ xs. AddsPadded c.args.part.now c.args.first xs c.args.lines.now c.match-padded_line.lines in
    let Q : List Line → Type 0 = λ lines. AddsPadded c.args.part.now c.args.first (take c.loop-line.line-index c.args.found.now ++ c.line-item.result ∷ []) c.args.lines.now lines in
    subst P (sym more) (elim c.match-padded_line.branch [
      | in-Some+in_ok-push w ↦ subst Q (sym w.lines-is) (adds_one c.args.part.now c.args.first (take c.loop-line.line-index c.args.found.now) c.line-item.result c.args.lines.now c.loop-line.lines w.push.new.self w.in-Some.line c.loop-line.invariant w.in-Some.ensures w.in_ok-push.ensures.ok)
      | in_default w ↦ subst Q (sym w.lines-is) (adds_skip c.args.part.now c.args.first (take c.loop-line.line-index c.args.found.now) c.line-item.result c.args.lines.now c.loop-line.lines c.loop-line.invariant w.in_default.ensures)
    ])
