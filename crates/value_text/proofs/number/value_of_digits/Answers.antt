use Rattle.std.proofs.Common.{◌≡◌, ◌+◌, ◌*◌, arith, ◌∙◌}
use Rattle.value_text.proofs.Numbers.{spells_none, only_digits, at_least, one_more}
use Rattle.value_text.proofs.number.value_of_digits.Goals as goal

pub returns-in_err-digit : goal.returns-in_err-digit
returns-in_err-digit c =
    spells_none c.args.text.now c.from_residual.result c.from_residual.ensures
    (λ n small e. c.in_err-digit.ensures (only_digits c.args.text.now n c.loop-byte.byte-index c.loop-byte-test.true small e))

pub returns-in_err-checked_mul : goal.returns-in_err-checked_mul
returns-in_err-checked_mul c =
    spells_none c.args.text.now c.from_residual-in_err-checked_mul.result c.from_residual-in_err-checked_mul.ensures
    (λ n small e.
    let least = at_least c.args.text.now n c.loop-byte.byte-index c.loop-byte.value c.loop-byte-test.true c.loop-byte.invariant.2 small e in
    c.in_err-checked_mul.ensures (omega arith))

pub returns-in_err-value : goal.returns-in_err-value
returns-in_err-value c =
    spells_none c.args.text.now c.from_residual-in_err-value.result c.from_residual-in_err-value.ensures
    (λ n small e.
    let least = at_least c.args.text.now n c.loop-byte.byte-index c.loop-byte.value c.loop-byte-test.true c.loop-byte.invariant.2 small e in
    let is = c.in_ok-digit.ensures.0 in
    let tens = c.in_ok-checked_mul.ensures.1 in
    c.in_err-value.ensures (omega arith))

pub loop-byte-preserved : goal.loop-byte-preserved
loop-byte-preserved c =
    let next = one_more c.args.text.now c.loop-byte.byte-index c.loop-byte.value c.in_ok-digit.digit c.loop-byte-test.true c.loop-byte.invariant.1 c.loop-byte.invariant.2 c.in_ok-digit.ensures.0 c.in_ok-digit.ensures.1 in
    let tens = c.in_ok-checked_mul.ensures.1 in
    let sum = c.in_ok-value.ensures.1 in
    let same : c.in_ok-value.value ≡ c.loop-byte.value * 10 + c.in_ok-digit.digit = omega arith in
    let fits = c.in_ok-value.ensures.0 in
    (omega arith, next.0, same ∙ next.1)
