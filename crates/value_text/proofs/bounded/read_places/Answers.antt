use Rattle.std.proofs.Common.{◌<◌, ◌^◌, decimal, sym, ◌∙◌, arith}
use Rattle.value_text.proofs.Fits.{offsets_are_short}
use Rattle.value_text.proofs.Offsets.{numbers_join}
use Rattle.value_text.proofs.Spellings.{none_then, same_joined}
use Rattle.value_text.proofs.bounded.read_places.Goals as goal

pub joined-requires : goal.joined-requires
joined-requires c = (omega arith, numbers_join)

pub returns-in_err-places : goal.returns-in_err-places
returns-in_err-places c =
    none_then _ _ c.from_residual.result c.from_residual.ensures (λ ns are e. c.in_err-places.ensures ns are.0 are.1 (offsets_are_short ns are.2) e)

pub returns-else-are_sectors : goal.returns-else-are_sectors
returns-else-are_sectors c ns are e =
    let same = same_joined 43 decimal (λ n. n < 2 ^ 64) numbers_join c.in_ok-places.places.items ns c.in_ok-places.ensures.0 are.0 c.in_ok-places.ensures.2 (offsets_are_short ns are.2) (sym c.in_ok-places.ensures.3 ∙ e) in
    let holds = c.are_sectors.ensures.1 (rw (c.deref.ensures.0, same) are.2) in
    let fails = c.if-are_sectors.false in
    cc
