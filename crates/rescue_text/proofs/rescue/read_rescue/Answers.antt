use Rattle.std.proofs.Common.{◌+◌, length, refl, sym, ap, ◌∙◌, arith, Ok}
use Rattle.std.proofs.lemmas.Grind.{common_steps}
use Rattle.std.proofs.lemmas.Result.{err_from_is_err_and}
use Rattle.rescue_text.specs.RescueText.{rescue_sections}
use Rattle.rescue_text.proofs.Reading.{answer_at_line, answer_at_end, line_taken, last_taken}
use Rattle.rescue_text.proofs.Sound.{are_sections}
use Rattle.rescue_text.proofs.rescue.read_rescue.Goals as goal

pub returns-in_err-add_line : goal.returns-in_err-add_line
returns-in_err-add_line c =
    let p = err_from_is_err_and c.from_residual.result c.from_residual.ensures.1 in
    rw (p.1, p.2) (answer_at_line c.args.images c.loop-line.taken (c.loop-line.taken + 1) c.loop-line.draft c.add_line.new.draft c.loop-line.rest.now c.in-Some.line.now c.in-Some.more.now (rescue_sections c.args.images c.args.text.now) c.in_err-add_line.field-0.0
    c.in-Some.ensures.0 c.in-Some.ensures.1 refl c.in_err-add_line.ensures c.loop-line.invariant.same)

pub loop-line-preserved : goal.loop-line-preserved
loop-line-preserved c = record {
  few = let few = c.loop-line.invariant.few in let parts = ap length c.in-Some.ensures.1 in grind (arith, common_steps, few, parts);
  same = line_taken c.args.images c.loop-line.taken c.loop-line.draft c.add_line.new.draft c.loop-line.rest.now c.in-Some.line.now c.in-Some.more.now (rescue_sections c.args.images c.args.text.now) c.in-Some.ensures.0 c.in-Some.ensures.1 c.in_ok-add_line.ensures c.loop-line.invariant.same;
}

pub returns-in_err-add_line-2 : goal.returns-in_err-add_line-2
returns-in_err-add_line-2 c =
    let p = err_from_is_err_and c.from_residual-in_err-add_line-2.result c.from_residual-in_err-add_line-2.ensures.1 in
    rw (p.1, p.2) (answer_at_end c.args.images c.loop-line.taken (c.loop-line.taken + 1) c.loop-line.draft c.add_line-2.new.draft c.loop-line.rest.now (rescue_sections c.args.images c.args.text.now) c.in_err-add_line-2.field-0.0
    c.in_default.ensures refl c.in_err-add_line-2.ensures c.loop-line.invariant.same)

pub invariant_of-result : goal.invariant_of-result
invariant_of-result c =
    are_sections c.args.images c.args.text.now c.in_ok-finish.field-0
    (last_taken c.args.images c.loop-line.taken c.loop-line.draft c.add_line-2.new.draft c.loop-line.rest.now (rescue_sections c.args.images c.args.text.now) c.in_default.ensures c.in_ok-add_line-2.ensures c.loop-line.invariant.same ∙ ap Ok (sym c.in_ok-finish.ensures))

pub returns : goal.returns
returns c = last_taken c.args.images c.loop-line.taken c.loop-line.draft c.add_line-2.new.draft c.loop-line.rest.now (rescue_sections c.args.images c.args.text.now) c.in_default.ensures c.in_ok-add_line-2.ensures c.loop-line.invariant.same ∙ ap Ok (sym c.in_ok-finish.ensures)
