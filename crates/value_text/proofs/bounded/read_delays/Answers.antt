use Rattle.std.proofs.Common.{◌<◌, ◌^◌, decimal, sym, ◌∙◌}
use Rattle.value_text.specs.NameLaws.{number_law, in_lists}
use Rattle.value_text.proofs.Fits.{delays_are_short, with_places}
use Rattle.value_text.proofs.Lists.{some_value}
use Rattle.value_text.proofs.Spellings.{none_then, same_list}
use Rattle.value_text.proofs.bounded.read_delays.Goals as goal

pub returns-in_err-delays : goal.returns-in_err-delays
returns-in_err-delays c =
    none_then _ _ c.from_residual.result c.from_residual.ensures (λ ns are e. c.in_err-delays.ensures ns (with_places ns are.0, are.1, delays_are_short ns are.2) e)

pub returns-else-are_delays : goal.returns-else-are_delays
returns-else-are_delays c ns are e =
    let same = same_list decimal (λ n. n < 2 ^ 64) (in_lists decimal (λ n. n < 2 ^ 64) number_law) c.in_ok-delays.delays.items ns (some_value (λ n. n) c.in_ok-delays.delays.items c.in_ok-delays.ensures.0.0) are.0.some c.in_ok-delays.ensures.0.2 (delays_are_short ns are.2) (sym c.in_ok-delays.ensures.1 ∙ e) in
    let holds = c.are_delays.ensures.1 (rw (c.deref.ensures.0, same) are.2) in
    let fails = c.if-are_delays.false in
    cc
