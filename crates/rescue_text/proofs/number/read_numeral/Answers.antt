use Rattle.std.proofs.Common.{◌≡◌, ◌<◌, ◌^◌, ◌+◌, ◌*◌, get_or, arith, ◌∙◌, sym, ap}
use Rattle.std.specs.Char.{digit_value}
use Rattle.rescue_text.proofs.Numerals.{large_by_digit, large_by_radix}
use Rattle.rescue_text.proofs.number.read_numeral.Goals as goal

pub returns-in_err-checked_mul : goal.returns-in_err-checked_mul
returns-in_err-checked_mul c =
    let no : ¬ (c.loop-byte.value * c.args.radix < 2 ^ 64) = rw c.from-in-loop-byte.ensures at c.in_err-checked_mul.ensures in
    let none = large_by_radix c.args.radix c.loop-byte.value c.loop-byte.byte-index c.args.digits.now c.loop-byte-test.true (omega (arith, c.requires.least)) c.loop-byte.invariant.same (omega (arith, no)) in
    c.from_residual-in_err-checked_mul.ensures ∙ sym none

pub returns-in_err-value : goal.returns-in_err-value
returns-in_err-value c =
    let digit : c.in_ok-digit.digit ≡ digit_value (get_or c.args.digits.now c.loop-byte.byte-index 0) = c.in_ok-digit.ensures.value.1 ∙ ap digit_value c.from.ensures in
    let tens : c.in_ok-checked_mul.field-0 ≡ c.loop-byte.value * c.args.radix = rw c.from-in-loop-byte.ensures at c.in_ok-checked_mul.ensures.1 in
    let no : ¬ (c.in_ok-checked_mul.field-0 + c.in_ok-digit.digit < 2 ^ 64) = rw c.from-in-loop-byte-2.ensures at c.in_err-value.ensures in
    let none = large_by_digit c.args.radix c.loop-byte.value c.loop-byte.byte-index c.args.digits.now c.loop-byte-test.true (omega (arith, c.requires.least)) c.loop-byte.invariant.same (omega (arith, no, tens, digit)) in
    c.from_residual-in_err-value.ensures ∙ sym none
