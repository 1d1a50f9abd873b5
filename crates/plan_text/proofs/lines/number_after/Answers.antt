use Rattle.std.proofs.Common.{◌≡◌, sym, ◌∙◌, arith, decimal}
use Rattle.std.proofs.lemmas.Fmt.{decimal_injective}
use Rattle.std.proofs.lemmas.List.{append_cancel_left}
use Rattle.value_text.proofs.Spellings.{none_then}
use Rattle.plan_text.proofs.lines.number_after.Goals as goal
use Rattle.plan_text.proofs.lines.number_after.Goals.{else-least-number-via-then-least-number+else-number-most, else-least-number-via-else-least-number}

pub returns-in_err-number : goal.returns-in_err-number
returns-in_err-number c =
    none_then _ _ c.from_residual-in_err-number.result c.from_residual-in_err-number.ensures
    (λ n is e. let high = is.1 in c.in_err-number.ensures n (omega (arith, c.ranges.most.fits)) (append_cancel_left c.args.word.now c.in_ok-after.field-0.now (decimal n) (sym c.in_ok-after.ensures ∙ e)))

pub returns-else-least-number : goal.returns-else-least-number
returns-else-least-number c n is e =
    let low = is.0 in
    let high = is.1 in
    let digits : c.in_ok-after.field-0.now ≡ decimal n = append_cancel_left c.args.word.now c.in_ok-after.field-0.now (decimal n) (sym c.in_ok-after.ensures ∙ e) in
    let same : c.in_ok-number.number ≡ n = decimal_injective c.in_ok-number.number n (omega arith) (omega (arith, c.ranges.most.fits)) (sym c.in_ok-number.ensures ∙ digits) in
    elim c.else-least-number.branch [
      | else-least-number-via-then-least-number+else-number-most w ↦ omega (arith, same, w.if-number-most.false)
      | else-least-number-via-else-least-number w ↦ omega (arith, same, w.if-least-number.false)
    ]
