use Rattle.std.proofs.Common.{◌≤◌, ◌++◌, ◌∙◌, ap, decimal, arith}
use Rattle.std.specs.Option.{ok_or}
use Rattle.std.proofs.lemmas.Result.{err_from_is_err_and}
use Rattle.value_text.proofs.Lists.{number_line}
use Rattle.plan_text.proofs.OneLine.{a_line, no_line, line_answer}
use Rattle.plan_text.proofs.reader.PlanReader.number.Goals as goal

pub returns-in_err-line : goal.returns-in_err-line
returns-in_err-line c =
    let p = err_from_is_err_and c.from_residual.result c.from_residual.ensures.1 in
    rw (p.1, p.2) (no_line (λ n. (c.args.least ≤ n) × (n ≤ c.args.most)) (λ n. c.args.word.now ++ decimal n) c.args.most (c.requires.some, omega arith) c.args.self.now _ c.in_err-line.ensures)

pub returns : goal.returns
returns c =
    line_answer (λ n. (c.args.least ≤ n) × (n ≤ c.args.most)) (λ n. c.args.word.now ++ decimal n) c.args.most (c.requires.some, omega arith)
    (λ n is. number_line c.args.word.now (a_line c.args.word.now c.requires.word) n (omega (arith, is.1, c.ranges.most.fits)))
    c.args.self.now c.next_line.new.self c.in_ok-line.line.now c.number_after.result c.ok_or.result c.in_ok-line.ensures c.number_after.ensures
    (c.ok_or.ensures.value ∙ ap (λ fault. ok_or c.number_after.result fault) c.refusal.ensures)
