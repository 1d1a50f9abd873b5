use Rattle.std.proofs.Common.{◌<◌, ◌^◌, decimal, sym, ◌∙◌}
use Rattle.value_text.specs.NameLaws.{number_law, in_lists}
use Rattle.value_text.proofs.Fits.{chunks_are_short, chunks_fit, with_places}
use Rattle.value_text.proofs.Lists.{some_value}
use Rattle.value_text.proofs.Spellings.{none_then, same_list}
use Rattle.value_text.proofs.bounded.read_chunks.Goals as goal

pub returns-in_err-chunks : goal.returns-in_err-chunks
returns-in_err-chunks c =
    none_then _ _ c.from_residual.result c.from_residual.ensures (λ ns are e. c.in_err-chunks.ensures ns (with_places ns are.0, chunks_fit ns are.0 are.1, chunks_are_short ns are.1) e)

pub returns-else-are_chunks : goal.returns-else-are_chunks
returns-else-are_chunks c ns are e =
    let same = same_list decimal (λ n. n < 2 ^ 64) (in_lists decimal (λ n. n < 2 ^ 64) number_law) c.in_ok-chunks.chunks.items ns (some_value (λ n. n) c.in_ok-chunks.chunks.items c.in_ok-chunks.ensures.0.0) are.0.some c.in_ok-chunks.ensures.0.2 (chunks_are_short ns are.1) (sym c.in_ok-chunks.ensures.1 ∙ e) in
    let holds = c.are_chunks.ensures.1 (rw (c.deref.ensures.0, same) are.1) in
    let fails = c.if-are_chunks.false in
    cc
