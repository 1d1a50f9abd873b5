use Rattle.std.proofs.Common.{sym, ◌∙◌}
use Rattle.value_text.proofs.Spellings.{none_then, same_list}
use Rattle.value_text.proofs.Lists.{some_value, rising_values}
use Rattle.value_text.proofs.spelled.rising.Goals as goal

pub returns-in_err-values : goal.returns-in_err-values
returns-in_err-values g c =
    none_then _ _ c.from_residual.result c.from_residual.ensures (λ xs is e. c.in_err-values.ensures xs (some_value g.T.Listed.place xs is.0) is.1 is.2 e)

pub returns-then-rises : goal.returns-then-rises
returns-then-rises g c =
    let up = rw c.deref.ensures.0 at (c.rises.ensures.0 c.if-rises.true) in
    ((rising_values g.T.Listed.place c.in_ok-values.values.items c.in_ok-values.ensures.0 up, c.in_ok-values.ensures.1, c.in_ok-values.ensures.2), c.in_ok-values.ensures.3)

pub returns-else-rises : goal.returns-else-rises
returns-else-rises g c xs is e =
    let rising = is.0 in
    let all = is.2 in
    let same = same_list g.T.Spelled.name g.T.Spelled.IsSpelled g.met.T.Spelled.law c.in_ok-values.values.items xs c.in_ok-values.ensures.0 (some_value g.T.Listed.place xs rising) c.in_ok-values.ensures.2 all (sym c.in_ok-values.ensures.3 ∙ e) in
    let holds = c.rises.ensures.1 (rw (c.deref.ensures.0, same) rising.rising) in
    let fails = c.if-rises.false in
    cc
