use Rattle.std.proofs.Common.{sym, ◌∙◌, arith}
use Rattle.std.proofs.lemmas.Fmt.{decimal_injective}
use Rattle.value_text.proofs.rotation.read_delay.Goals as goal
use Rattle.value_text.proofs.rotation.read_delay.Goals.{else-delay-ge2-via-then-delay-ge2+else-delay-from, else-delay-ge2-via-else-delay-ge2}

pub returns-else-delay-ge2 : goal.returns-else-delay-ge2
returns-else-delay-ge2 c delay least small e =
    let same = decimal_injective c.in_ok-delay.delay delay (omega arith) (omega arith) (sym c.in_ok-delay.ensures ∙ e) in
    elim c.else-delay-ge2.branch [
      | else-delay-ge2-via-then-delay-ge2+else-delay-from w ↦ omega (arith, same, w.if-delay-from.false, w.from.ensures)
      | else-delay-ge2-via-else-delay-ge2 w ↦ omega (arith, same, w.if-delay-ge2.false)
    ]
