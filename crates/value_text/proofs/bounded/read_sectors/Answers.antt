use Rattle.std.proofs.Common.{◌<◌, ◌^◌, decimal, sym, ◌∙◌}
use Rattle.value_text.specs.NameLaws.{number_law, in_lists}
use Rattle.value_text.proofs.Fits.{offsets_are_short, with_places}
use Rattle.value_text.proofs.Lists.{some_value}
use Rattle.value_text.proofs.Spellings.{none_then, same_list}
use Rattle.value_text.proofs.bounded.read_sectors.Goals as goal

pub returns-in_err-sectors : goal.returns-in_err-sectors
returns-in_err-sectors g c =
    none_then _ _ c.from_residual.result c.from_residual.ensures (λ ns are e. c.in_err-sectors.ensures ns (with_places ns are.0, are.1, offsets_are_short ns are.2) e)

pub returns-else-are_sectors : goal.returns-else-are_sectors
returns-else-are_sectors g c ns are e =
    let same = same_list decimal (λ n. n < 2 ^ 64) (in_lists decimal (λ n. n < 2 ^ 64) number_law) c.in_ok-sectors.sectors.items ns (some_value (λ n. n) c.in_ok-sectors.sectors.items c.in_ok-sectors.ensures.0.0) are.0.some c.in_ok-sectors.ensures.0.2 (offsets_are_short ns are.2) (sym c.in_ok-sectors.ensures.1 ∙ e) in
    let holds = c.are_sectors.ensures.1 (rw (c.deref.ensures.0, same) are.2) in
    let fails = c.if-are_sectors.false in
    cc
