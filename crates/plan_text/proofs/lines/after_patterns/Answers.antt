use Rattle.plan_text.proofs.AfterPatterns.{none_of_delays, none_of_orders}
use Rattle.value_text.proofs.Spellings.{none_then}
use Rattle.plan_text.proofs.lines.after_patterns.Goals as goal

pub returns-in_err-other_delays-in-Some : goal.returns-in_err-other_delays-in-Some
returns-in_err-other_delays-in-Some c =
    none_then _ _ c.from_residual.result c.from_residual.ensures
    (λ what may e. none_of_delays c.args.third c.args.line.now c.in-Some.text.now c.in-Some.ensures (λ is ns are. c.in_err-other_delays-in-Some.ensures ns are) what may e)

pub returns-in_err-list_after-in-None : goal.returns-in_err-list_after-in-None
returns-in_err-list_after-in-None c =
    none_then _ _ c.from_residual-in_err-list_after-in-None.result c.from_residual-in_err-list_after-in-None.ensures
    (λ what may e. none_of_orders c.args.third c.args.line.now c.in-None.ensures c.in_err-list_after-in-None.ensures what may e)
