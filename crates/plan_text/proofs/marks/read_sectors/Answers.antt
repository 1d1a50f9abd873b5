use Rattle.std.proofs.Common.{sym, ◌∙◌, arith}
use Rattle.std.proofs.lemmas.Fmt.{decimal_injective}
use Rattle.plan_text.proofs.marks.read_sectors.Goals as goal

pub returns-else-number-lt-SECTORS_END : goal.returns-else-number-lt-SECTORS_END
returns-else-number-lt-SECTORS_END c n small e =
    let same = decimal_injective c.in_ok-number.number n (omega arith) (omega arith) (sym c.in_ok-number.ensures ∙ e) in
    omega (arith, same, c.if-number-lt-SECTORS_END.false)
