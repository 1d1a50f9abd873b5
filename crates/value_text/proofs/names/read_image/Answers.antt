use Rattle.std.proofs.Common.{sym, ◌∙◌, arith}
use Rattle.std.proofs.lemmas.Fmt.{decimal_injective}
use Rattle.value_text.proofs.names.read_image.Goals as goal

pub returns-else-from-lt-MOST : goal.returns-else-from-lt-MOST
returns-else-from-lt-MOST c image small e =
    let same = decimal_injective c.in_ok-image.image image (omega (arith, c.in_ok-image.ensures.0)) (omega arith) (sym c.in_ok-image.ensures.1 ∙ e) in
    omega (arith, same, c.if-from-lt-MOST.false, c.from.ensures)
