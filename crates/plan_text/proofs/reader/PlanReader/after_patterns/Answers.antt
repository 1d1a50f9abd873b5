use Rattle.std.proofs.Common.{◌∷◌, [], ◌∙◌, ap}
use Rattle.std.specs.Option.{ok_or}
use Rattle.std.proofs.lemmas.Result.{err_from_is_err_and}
use Rattle.plan_text.specs.declared.parts.AfterPatterns.TheVariants.{Syndromes}
use Rattle.raid_params.specs.declared.types.Syndrome.TheVariants.{NoQ}
use Rattle.plan_text.specs.Parts.{MayComeAfter, line_after}
use Rattle.plan_text.proofs.OneLine.{no_line, line_answer}
use Rattle.plan_text.proofs.AfterPatterns.{plain_after, some_after, some_syndromes}
use Rattle.plan_text.proofs.reader.PlanReader.after_patterns.Goals as goal

pub returns-in_err-line : goal.returns-in_err-line
returns-in_err-line c =
    let p = err_from_is_err_and c.from_residual.result c.from_residual.ensures.1 in
    rw (p.1, p.2) (no_line (MayComeAfter c.args.third) line_after some_syndromes (some_after c.args.third) c.args.self.now _ c.in_err-line.ensures)

pub returns : goal.returns
returns c =
    line_answer (MayComeAfter c.args.third) line_after some_syndromes (some_after c.args.third) (plain_after c.args.third)
    c.args.self.now c.next_line.new.self c.in_ok-line.line.now c.after_patterns.result c.ok_or.result c.in_ok-line.ensures c.after_patterns.ensures
    (c.ok_or.ensures.value ∙ ap (λ fault. ok_or c.after_patterns.result fault) c.refusal.ensures)
