use Rattle.std.proofs.Common.{◌≡◌, ◌<◌, ◌^◌, ap, decimal, sym, ◌∙◌}
use Rattle.value_text.specs.NameLaws.{number_law, in_lists}
use Rattle.value_text.proofs.Fits.{delays_are_short}
use Rattle.value_text.proofs.Spellings.{none_then, same_list}
use Rattle.plan_text.specs.PlanText.{some_delays}
use Rattle.plan_text.proofs.lines.other_delays.Goals as goal

pub returns-in_err-delays : goal.returns-in_err-delays
returns-in_err-delays c =
    none_then _ _ c.from_residual.result c.from_residual.ensures (λ ns are e. c.in_err-delays.ensures ns are.0 e)

pub returns-else-some_delays : goal.returns-else-some_delays
returns-else-some_delays c ns are e =
    let read = c.in_ok-delays.ensures in
    let same = same_list decimal (λ n. n < 2 ^ 64) (in_lists decimal (λ n. n < 2 ^ 64) number_law) c.in_ok-delays.delays.items ns read.0.0.some are.0.0.some (delays_are_short c.in_ok-delays.delays.items read.0.2) (delays_are_short ns are.0.2) (sym read.1 ∙ e) in
    let told : c.some_delays.result ≡ some_delays ns = c.some_delays.ensures ∙ ap some_delays (c.deref.ensures.0 ∙ same) in
    let holds = are.1 in
    let fails = c.if-some_delays.false in
    cc
