use Rattle.std.proofs.lemmas.Result.{err_from_is_err_and}
use Rattle.plan_text.specs.Parts.{AreCounts, lines_of_counts}
use Rattle.plan_text.proofs.Counts.{are_counts, stands_missing, stands_foreign, stands_badrows, stands_window, stands_misfits, stands_least}
use Rattle.plan_text.proofs.Refusals.{went, went_on, is_read, nowhere, refused}
use Rattle.plan_text.proofs.reader.PlanReader.counts.Goals as goal

pub returns-in_err-missing : goal.returns-in_err-missing
returns-in_err-missing c =
    let p = err_from_is_err_and c.from_residual.result c.from_residual.ensures.1 in
    rw (p.1, p.2) (refused _ _ (AreCounts c.args.each) lines_of_counts _ c.args.self.now c.args.self.now c.in_err-missing.field-0.0 (stands_missing c.args.each) (nowhere _) c.in_err-missing.ensures)

pub returns-in_err-foreign : goal.returns-in_err-foreign
returns-in_err-foreign c =
    let p = err_from_is_err_and c.from_residual-in_err-foreign.result c.from_residual-in_err-foreign.ensures.1 in
    rw (p.1, p.2) (refused _ _ (AreCounts c.args.each) lines_of_counts _ c.args.self.now c.number.new.self c.in_err-foreign.field-0.0 (stands_foreign c.args.each c.in_ok-missing.field-0 c.in_ok-missing.ensures.is_value.1) (went c.in_ok-missing.ensures) (rw c.most_foreign.ensures at c.in_err-foreign.ensures))

pub returns-in_err-badrows : goal.returns-in_err-badrows
returns-in_err-badrows c =
    let p = err_from_is_err_and c.from_residual-in_err-badrows.result c.from_residual-in_err-badrows.ensures.1 in
    rw (p.1, p.2) (refused _ _ (AreCounts c.args.each) lines_of_counts _ c.args.self.now c.number-2.new.self c.in_err-badrows.field-0.0 (stands_badrows c.args.each c.in_ok-missing.field-0 c.in_ok-foreign.field-0 c.in_ok-missing.ensures.is_value.1 (rw c.most_foreign.ensures at c.in_ok-foreign.ensures.is_value.1)) (went_on (went c.in_ok-missing.ensures) (went c.in_ok-foreign.ensures)) c.in_err-badrows.ensures)

pub returns-in_err-window : goal.returns-in_err-window
returns-in_err-window c =
    let p = err_from_is_err_and c.from_residual-in_err-window.result c.from_residual-in_err-window.ensures.1 in
    rw (p.1, p.2) (refused _ _ (AreCounts c.args.each) lines_of_counts _ c.args.self.now c.number-3.new.self c.in_err-window.field-0.0 (stands_window c.args.each c.in_ok-missing.field-0 c.in_ok-foreign.field-0 c.in_ok-badrows.badrows c.in_ok-missing.ensures.is_value.1 (rw c.most_foreign.ensures at c.in_ok-foreign.ensures.is_value.1) c.in_ok-badrows.ensures.is_value.1) (went_on (went_on (went c.in_ok-missing.ensures) (went c.in_ok-foreign.ensures)) (went c.in_ok-badrows.ensures)) c.in_err-window.ensures)

pub returns-in_err-misfits : goal.returns-in_err-misfits
returns-in_err-misfits c =
    let p = err_from_is_err_and c.from_residual-in_err-misfits.result c.from_residual-in_err-misfits.ensures.1 in
    rw (p.1, p.2) (refused _ _ (AreCounts c.args.each) lines_of_counts _ c.args.self.now c.number-4.new.self c.in_err-misfits.field-0.0 (stands_misfits c.args.each c.in_ok-missing.field-0 c.in_ok-foreign.field-0 c.in_ok-badrows.badrows c.in_ok-window.window c.in_ok-missing.ensures.is_value.1 (rw c.most_foreign.ensures at c.in_ok-foreign.ensures.is_value.1) c.in_ok-badrows.ensures.is_value.1 c.in_ok-window.ensures.is_value) (went_on (went_on (went_on (went c.in_ok-missing.ensures) (went c.in_ok-foreign.ensures)) (went c.in_ok-badrows.ensures)) (went c.in_ok-window.ensures)) c.in_err-misfits.ensures)

pub returns-in_err-least : goal.returns-in_err-least
returns-in_err-least c =
    let p = err_from_is_err_and c.from_residual-in_err-least.result c.from_residual-in_err-least.ensures.1 in
    rw (p.1, p.2) (refused _ _ (AreCounts c.args.each) lines_of_counts _ c.args.self.now c.number-5.new.self c.in_err-least.field-0.0 (stands_least c.args.each c.in_ok-missing.field-0 c.in_ok-foreign.field-0 c.in_ok-badrows.badrows c.in_ok-window.window c.in_ok-misfits.misfits c.in_ok-missing.ensures.is_value.1 (rw c.most_foreign.ensures at c.in_ok-foreign.ensures.is_value.1) c.in_ok-badrows.ensures.is_value.1 c.in_ok-window.ensures.is_value c.in_ok-misfits.ensures.is_value.1) (went_on (went_on (went_on (went_on (went c.in_ok-missing.ensures) (went c.in_ok-foreign.ensures)) (went c.in_ok-badrows.ensures)) (went c.in_ok-window.ensures)) (went c.in_ok-misfits.ensures)) c.in_err-least.ensures)

pub returns : goal.returns
returns c = is_read (AreCounts c.args.each) lines_of_counts _ (are_counts c.args.each c.in_ok-missing.field-0 c.in_ok-foreign.field-0 c.in_ok-badrows.badrows c.in_ok-window.window c.in_ok-misfits.misfits c.in_ok-least.least c.in_ok-missing.ensures.is_value.1 (rw c.most_foreign.ensures at c.in_ok-foreign.ensures.is_value.1) c.in_ok-badrows.ensures.is_value.1 c.in_ok-window.ensures.is_value c.in_ok-misfits.ensures.is_value.1 c.in_ok-least.ensures.is_value.1) (went_on (went_on (went_on (went_on (went_on (went c.in_ok-missing.ensures) (went c.in_ok-foreign.ensures)) (went c.in_ok-badrows.ensures)) (went c.in_ok-window.ensures)) (went c.in_ok-misfits.ensures)) (went c.in_ok-least.ensures))
