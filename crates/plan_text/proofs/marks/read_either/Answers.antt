use Rattle.plan_text.proofs.Entries.{same_number}
use Rattle.value_text.proofs.Spellings.{none_then}
use Rattle.plan_text.proofs.marks.read_either.Goals as goal

pub returns-in_err-second : goal.returns-in_err-second
returns-in_err-second c =
    none_then _ _ c.from_residual-in_err-second.result c.from_residual-in_err-second.ensures (λ first second is e.
    let one = same_number c.args.text.now c.in_ok-first.first first c.in_ok-first.after_first.now _ c.in_ok-first.ensures is.0 e in
    c.in_err-second.ensures second is.1 one.1)
