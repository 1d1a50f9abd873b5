use Rattle.std.proofs.Common.{arith, rules}
use Rattle.command_words.proofs.ReadValues.{out_of_bounds}
use Rattle.command_words.proofs.values.number_within.Goals as goal

pub returns-then-number-least : goal.returns-then-number-least
returns-then-number-least c n above below =
    let low = c.if-number-least.true in
    out_of_bounds c.args.text.now c.args.least c.args.most c.in_ok-number.number n c.ranges.most.fits (search rules) c.in_ok-number.ensures (λ up. absurd (omega arith)) above below

pub returns-then-most-number : goal.returns-then-most-number
returns-then-most-number c n above below =
    let far = c.if-most-number.true in
    out_of_bounds c.args.text.now c.args.least c.args.most c.in_ok-number.number n c.ranges.most.fits (search rules) c.in_ok-number.ensures (λ up. far) above below
