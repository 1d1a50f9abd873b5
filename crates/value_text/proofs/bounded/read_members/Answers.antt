use Rattle.std.proofs.Common.{◌<◌, ◌^◌, decimal, sym, ◌∙◌}
use Rattle.value_text.specs.NameLaws.{byte_law, in_lists}
use Rattle.value_text.proofs.Fits.{members_are_bytes, members_fit, with_places}
use Rattle.value_text.proofs.Lists.{some_value}
use Rattle.value_text.proofs.Spellings.{none_then, same_list}
use Rattle.value_text.proofs.bounded.read_members.Goals as goal

pub returns-in_err-members : goal.returns-in_err-members
returns-in_err-members c =
    none_then _ _ c.from_residual.result c.from_residual.ensures (λ ns are e. c.in_err-members.ensures ns (with_places ns are.0, members_fit ns are.0 are.1, members_are_bytes ns are.1) e)

pub returns-else-are_members : goal.returns-else-are_members
returns-else-are_members c ns are e =
    let same = same_list decimal (λ n. n < 2 ^ 8) (in_lists decimal (λ n. n < 2 ^ 8) byte_law) c.in_ok-members.members.items ns (some_value (λ n. n) c.in_ok-members.members.items c.in_ok-members.ensures.0.0) are.0.some c.in_ok-members.ensures.0.2 (members_are_bytes ns are.1) (sym c.in_ok-members.ensures.1 ∙ e) in
    let holds = c.are_members.ensures.1 (rw (c.deref.ensures.0, same) are.1) in
    let fails = c.if-are_members.false in
    cc
