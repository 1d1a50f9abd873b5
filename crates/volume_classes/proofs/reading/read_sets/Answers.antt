use Rattle.std.proofs.Common.{◌+◌, ◌≤◌, length, refl, sym, ◌∙◌, arith}
use Rattle.std.proofs.lemmas.Bool.{eqb-false}
use Rattle.std.proofs.lemmas.Result.{err_from_is_err_and}
use Rattle.volume_classes.proofs.ListSteps.{far_end, far_more, far_refused}
use Rattle.volume_classes.proofs.reading.read_sets.Goals as goal

pub returns-in_err-add_entry : goal.returns-in_err-add_entry
returns-in_err-add_entry c =
    let p = err_from_is_err_and c.from_residual.result c.from_residual.ensures.1 in
    rw (p.1, p.2) (far_refused c.loop-line.invariant c.in-Some.line.now c.in-Some.more.now (c.loop-line.taken + 1) c.add_entry.new.sets c.in_err-add_entry.field-0.0 c.in-Some.ensures.1 c.in-Some.ensures.0 refl c.in_err-add_entry.ensures)

pub loop-line-preserved : goal.loop-line-preserved
loop-line-preserved c =
    let told = c.in_ok-add_entry.ensures in
    far_more c.loop-line.invariant c.in-Some.line.now c.in-Some.more.now c.add_entry.new.sets told.0 c.in-Some.ensures.1 told.1 told.2 told.3 told.4

pub returns-else-is_empty : goal.returns-else-is_empty
returns-else-is_empty c =
    let off = eqb-false (length c.loop-line.rest.now) 0 (sym c.is_empty.ensures ∙ c.if-is_empty.false) in
    let some : 1 ≤ length c.loop-line.rest.now = omega (arith, off) in
    far_end c.loop-line.invariant c.in_default.ensures some
