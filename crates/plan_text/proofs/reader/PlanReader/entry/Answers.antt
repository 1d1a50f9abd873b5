use Rattle.std.proofs.Common.{◌∙◌, ap}
use Rattle.std.specs.Option.{ok_or}
use Rattle.std.proofs.lemmas.Result.{err_from_is_err_and}
use Rattle.plan_text.specs.Drafts.{IsEntry, MayFollow, entry_line}
use Rattle.plan_text.proofs.EntryLines.{an_entry_line}
use Rattle.plan_text.proofs.OneLine.{no_line, line_answer}
use Rattle.plan_text.proofs.reader.PlanReader.entry.Goals as goal

pub returns-in_err-line : goal.returns-in_err-line
returns-in_err-line c =
    let p = err_from_is_err_and c.from_residual.result c.from_residual.ensures.1 in
    rw (p.1, p.2) (no_line (λ entry. IsEntry entry × MayFollow c.args.bounding.third c.args.bounding.delayed c.args.lengths.now c.args.draft.now entry) entry_line c.requires.one.0 c.requires.one.1 c.args.self.now _ c.in_err-line.ensures)

pub returns : goal.returns
returns c =
    line_answer (λ entry. IsEntry entry × MayFollow c.args.bounding.third c.args.bounding.delayed c.args.lengths.now c.args.draft.now entry) entry_line c.requires.one.0 c.requires.one.1 (λ entry is. an_entry_line entry is.0)
    c.args.self.now c.next_line.new.self c.in_ok-line.line.now c.entry_after.result c.ok_or.result c.in_ok-line.ensures c.entry_after.ensures
    (c.ok_or.ensures.value ∙ ap (λ fault. ok_or c.entry_after.result fault) c.refusal.ensures)
