use Rattle.value_text.proofs.Numbers.{no_leading_zero, spelled_by}
use Rattle.value_text.proofs.number.read_number.Goals as goal

pub returns-then-has_no_leading_zero : goal.returns-then-has_no_leading_zero
returns-then-has_no_leading_zero c = spelled_by c.args.text.now c.value_of_digits.result (c.has_no_leading_zero.ensures.0 c.if-has_no_leading_zero.true) c.value_of_digits.ensures

pub returns-else-has_no_leading_zero : goal.returns-else-has_no_leading_zero
returns-else-has_no_leading_zero c n small e =
    let holds = c.has_no_leading_zero.ensures.1 (no_leading_zero c.args.text.now n small e) in
    let fails = c.if-has_no_leading_zero.false in
    cc
