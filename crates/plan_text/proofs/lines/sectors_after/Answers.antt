use Rattle.std.proofs.Common.{decimal, map}
use Rattle.plan_text.specs.Parts.{AreBelow}
use Rattle.value_text.specs.Spelling.{commas}
use Rattle.value_text.proofs.Lists.{after_word}
use Rattle.plan_text.proofs.lines.sectors_after.Goals as goal

pub returns : goal.returns
returns g c = after_word (λ v. v.items) (λ ns. AreBelow c.args.end g.row.CAP ns) (λ ns. commas (map decimal ns)) c.args.line.now c.args.word.now c.in_ok-after.field-0.now c.below.result c.in_ok-after.ensures c.below.ensures
