use Rattle.std.proofs.Common.{◌<◌, ◌^◌, arith, decimal, refl}
use Rattle.value_text.specs.NameLaws.{number_law}
use Rattle.value_text.proofs.Spellings.{next_value}
use Rattle.plan_text.proofs.marks.sectors_until.Goals as goal

pub returns-else-number-lt-SECTORS_END : goal.returns-else-number-lt-SECTORS_END
returns-else-number-lt-SECTORS_END c n rest small e =
    let same = (next_value decimal (λ k. k < 2 ^ 64) number_law 58 c.args.text.now c.in_ok-number.number n c.in_ok-number.rest.now rest refl c.in_ok-number.ensures (omega arith) e).0 in
    omega (arith, same, c.if-number-lt-SECTORS_END.false)
