use Rattle.std.proofs.Common.{◌≡◌, arith, sym, ◌∙◌}
use Rattle.std.proofs.lemmas.Fmt.{decimal_injective}
use Rattle.plan_text.proofs.Entries.{same_number}
use Rattle.value_text.proofs.Spellings.{none_then}
use Rattle.plan_text.proofs.marks.read_every.Goals as goal

pub returns-in_err-count : goal.returns-in_err-count
returns-in_err-count c =
    none_then _ _ c.from_residual-in_err-count.result c.from_residual-in_err-count.ensures (λ s n p is e.
    let one = same_number c.args.text.now c.in_ok-step.step s c.in_ok-step.after_step.now _ c.in_ok-step.ensures is.0 e in
    c.in_err-count.ensures n _ is.1 one.1)

pub returns-in_err-plus : goal.returns-in_err-plus
returns-in_err-plus c =
    none_then _ _ c.from_residual-in_err-plus.result c.from_residual-in_err-plus.ensures (λ s n p is e.
    let one = same_number c.args.text.now c.in_ok-step.step s c.in_ok-step.after_step.now _ c.in_ok-step.ensures is.0 e in
    let two = same_number c.in_ok-step.after_step.now c.in_ok-count.count n c.in_ok-count.after_count.now _ c.in_ok-count.ensures is.1 one.1 in
    c.in_err-plus.ensures p is.2 two.1)

pub returns-else-is_near : goal.returns-else-is_near
returns-else-is_near c s n p is e =
    let one = same_number c.args.text.now c.in_ok-step.step s c.in_ok-step.after_step.now _ c.in_ok-step.ensures is.0 e in
    let two = same_number c.in_ok-step.after_step.now c.in_ok-count.count n c.in_ok-count.after_count.now _ c.in_ok-count.ensures is.1 one.1 in
    let three : c.in_ok-plus.plus ≡ p = decimal_injective c.in_ok-plus.plus p (omega (arith, c.in_ok-plus.ensures.0)) (omega (arith, is.2)) (sym c.in_ok-plus.ensures.1 ∙ two.1) in
    let step : c.in_ok-step.step ≡ s = one.0 in
    let count : c.in_ok-count.count ≡ n = two.0 in
    let holds = c.is_near.ensures.1 (rw (step, count, three) is.3) in
    let fails = c.if-is_near.false in
    cc
