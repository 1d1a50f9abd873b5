use Rattle.std.proofs.Common.{◌≡◌, ◌≢◌, ◌∙◌, ℕ, List, Bool, ap, false, Option, None, Some, MatchOption}
use Rattle.std.specs.Option.{ok_or}
use Rattle.std.proofs.lemmas.Result.{err_from_is_err_and}
use Rattle.plan_text.specs.PlanText.{mode_line}
use Rattle.plan_text.proofs.OneLine.{line_answer, no_line}
use Rattle.plan_text.proofs.RefusedLines.{mode_plain}
use Rattle.plan_text.proofs.reader.PlanReader.mode.Goals as goal

-- the same of a mode, of which each is one
told : (r : Option Bool) (line : List ℕ) → MatchOption r ((each : Bool) → line ≢ mode_line each) (λ each. line ≡ mode_line each) → MatchOption r ((each : Bool) → Unit {0} → line ≢ mode_line each) (λ each. Unit {0} × (line ≡ mode_line each))
told None line h = λ each is. h each
told (Some each) line h = (tt, h)

pub returns-in_err-line : goal.returns-in_err-line
returns-in_err-line c =
    let p = err_from_is_err_and c.from_residual.result c.from_residual.ensures.1 in
    rw (p.1, p.2) (no_line (λ (each : Bool). Unit {0}) mode_line false tt c.args.self.now _ c.in_err-line.ensures)

pub returns : goal.returns
returns c =
    line_answer (λ (each : Bool). Unit {0}) mode_line false tt (λ each is. mode_plain each)
    c.args.self.now c.next_line.new.self c.in_ok-line.line.now c.mode_after.result c.ok_or.result c.in_ok-line.ensures (told c.mode_after.result c.in_ok-line.line.now c.mode_after.ensures)
    (c.ok_or.ensures.value ∙ ap (λ fault. ok_or c.mode_after.result fault) c.refusal.ensures)
