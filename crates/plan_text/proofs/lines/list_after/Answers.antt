use Rattle.std.proofs.Common.{◌≤◌, All, length, map}
use Rattle.search_plan.specs.Plans.{AreRising}
use Rattle.value_text.specs.Spelling.{commas}
use Rattle.value_text.proofs.Lists.{after_word}
use Rattle.plan_text.proofs.lines.list_after.Goals as goal

pub returns : goal.returns
returns g c =
    after_word (λ v. v.items) (λ xs. AreRising (map g.T.Listed.place xs) × (length xs ≤ g.row.CAP) × All g.T.Spelled.IsSpelled xs) (λ xs. commas (map g.T.Spelled.name xs)) c.args.line.now c.args.word.now c.in_ok-after.field-0.now c.rising.result c.in_ok-after.ensures c.rising.ensures
