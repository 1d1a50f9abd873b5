use Rattle.std.proofs.Common.{◌≤◌, ◌++◌, ◌∙◌, [], ◌∷◌, All, ap, length, map}
use Rattle.std.specs.Option.{ok_or}
use Rattle.std.proofs.lemmas.Result.{err_from_is_err_and}
use Rattle.search_plan.specs.Plans.{AreRising}
use Rattle.value_text.specs.Spelling.{commas}
use Rattle.value_text.proofs.Lists.{word_line}
use Rattle.plan_text.proofs.OneLine.{a_line, no_line, line_answer}
use Rattle.plan_text.proofs.SectionLines.{of_items, of_one, one_rises}
use Rattle.plan_text.proofs.reader.PlanReader.list.Goals as goal

pub returns-in_err-line : goal.returns-in_err-line
returns-in_err-line g c =
    let p = err_from_is_err_and c.from_residual.result c.from_residual.ensures.1 in
    let x = c.requires.some in
    rw (p.1, p.2) (no_line (λ xs. AreRising (map g.T.Listed.place xs.items) × (length xs.items ≤ g.row.CAP) × All g.T.Spelled.IsSpelled xs.items) (λ xs. c.args.word.now ++ commas (map g.T.Spelled.name xs.items))
    record { items = x.0 ∷ [] } (one_rises (g.T.Listed.place x.0), c.requires.room, of_one g.T.Spelled.IsSpelled x.0 x.1) c.args.self.now _ c.in_err-line.ensures)

pub returns : goal.returns
returns g c =
    let x = c.requires.some in
    line_answer (λ xs. AreRising (map g.T.Listed.place xs.items) × (length xs.items ≤ g.row.CAP) × All g.T.Spelled.IsSpelled xs.items) (λ xs. c.args.word.now ++ commas (map g.T.Spelled.name xs.items))
    record { items = x.0 ∷ [] } (one_rises (g.T.Listed.place x.0), c.requires.room, of_one g.T.Spelled.IsSpelled x.0 x.1)
    (λ xs is. word_line g.T.Spelled.name g.T.Spelled.IsSpelled g.met.T.Field.law c.args.word.now (a_line c.args.word.now c.requires.word) xs.items is.2)
    c.args.self.now c.next_line.new.self c.in_ok-line.line.now c.list_after.result c.ok_or.result c.in_ok-line.ensures
    (of_items (λ xs. xs.items) (λ xs. AreRising (map g.T.Listed.place xs) × (length xs ≤ g.row.CAP) × All g.T.Spelled.IsSpelled xs) (λ xs. c.args.word.now ++ commas (map g.T.Spelled.name xs)) c.in_ok-line.line.now c.list_after.result c.list_after.ensures)
    (c.ok_or.ensures.value ∙ ap (λ fault. ok_or c.list_after.result fault) c.refusal.ensures)
