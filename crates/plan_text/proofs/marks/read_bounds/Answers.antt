use Rattle.std.proofs.Common.{arith}
use Rattle.plan_text.proofs.Entries.{after_misfits}
use Rattle.value_text.proofs.Spellings.{none_then}
use Rattle.plan_text.proofs.marks.read_bounds.Goals as goal

pub returns-in_err-least : goal.returns-in_err-least
returns-in_err-least c =
    none_then _ _ c.from_residual-in_err-least.result c.from_residual-in_err-least.ensures (λ bounds is e.
    let one = after_misfits bounds is c.args.text.now c.in_ok-misfits.misfits c.in_ok-misfits.after_misfits.now c.in_ok-misfits.ensures e in
    c.in_err-least.ensures bounds.least is.least one.1)

pub returns-else-misfits-lt-SECTORS_END : goal.returns-else-misfits-lt-SECTORS_END
returns-else-misfits-lt-SECTORS_END c bounds is e =
    let one = after_misfits bounds is c.args.text.now c.in_ok-misfits.misfits c.in_ok-misfits.after_misfits.now c.in_ok-misfits.ensures e in
    let small = is.misfits in
    omega (arith, one.0, small, c.if-misfits-lt-SECTORS_END.false)
