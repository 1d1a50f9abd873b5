use Rattle.std.proofs.Common.{◌<◌, ◌^◌, ◌++◌, ◌∙◌, [], ◌∷◌, ap, map, decimal}
use Rattle.std.specs.Option.{ok_or}
use Rattle.std.proofs.lemmas.Result.{err_from_is_err_and}
use Rattle.value_text.specs.NameLaws.{number_law}
use Rattle.plan_text.specs.Parts.{AreBelow}
use Rattle.value_text.specs.Spelling.{commas}
use Rattle.value_text.proofs.Fits.{offsets_are_short}
use Rattle.value_text.proofs.Lists.{word_line}
use Rattle.plan_text.proofs.OneLine.{a_line, no_line, line_answer}
use Rattle.plan_text.proofs.SectionLines.{of_items, are_below}
use Rattle.plan_text.proofs.reader.PlanReader.sectors.Goals as goal

pub returns-in_err-line : goal.returns-in_err-line
returns-in_err-line g c =
    let p = err_from_is_err_and c.from_residual.result c.from_residual.ensures.1 in
    rw (p.1, p.2) (no_line (λ xs. AreBelow c.args.end g.row.CAP xs.items) (λ xs. c.args.word.now ++ commas (map decimal xs.items)) record { items = 0 ∷ [] } (are_below c.args.end g.row.CAP c.requires.some c.requires.room) c.args.self.now _ c.in_err-line.ensures)

pub returns : goal.returns
returns g c =
    line_answer (λ xs. AreBelow c.args.end g.row.CAP xs.items) (λ xs. c.args.word.now ++ commas (map decimal xs.items)) record { items = 0 ∷ [] } (are_below c.args.end g.row.CAP c.requires.some c.requires.room)
    (λ xs is. word_line decimal (λ n. n < 2 ^ 64) number_law (c.args.word.now) (a_line c.args.word.now c.requires.word) xs.items (offsets_are_short xs.items is.0.2))
    c.args.self.now c.next_line.new.self c.in_ok-line.line.now c.sectors_after.result c.ok_or.result c.in_ok-line.ensures
    (of_items (λ xs. xs.items) (λ xs. AreBelow c.args.end g.row.CAP xs) (λ xs. c.args.word.now ++ commas (map decimal xs)) c.in_ok-line.line.now c.sectors_after.result c.sectors_after.ensures)
    (c.ok_or.ensures.value ∙ ap (λ fault. ok_or c.sectors_after.result fault) c.refusal.ensures)
