use Rattle.std.proofs.Common.{◌≡◌, ◌==◌, ◌∷◌, [], List, ℕ, true, false, subst, arith}
use Rattle.std.proofs.lemmas.Result.{err_from_is_err_and}
use Rattle.plan_text.specs.declared.version.Version.{Version}
use Rattle.plan_text.proofs.Refusals.{Went, is_read, nowhere, refused, went, went_on}
use Rattle.plan_text.proofs.Versions.{lines_of_version, number_line, read_older, stands_mode, stands_number, version_with}
use Rattle.plan_text.proofs.reader.PlanReader.version.Goals as goal

pub returns-in_err-number : goal.returns-in_err-number
returns-in_err-number c =
    let p = err_from_is_err_and c.from_residual.result c.from_residual.ensures.1 in
    rw (p.1, p.2) (refused _ _ (λ (version : Version). Unit {0}) lines_of_version _ c.args.self.now c.args.self.now c.in_err-number.field-0.0 stands_number (nowhere _) c.in_err-number.ensures)

pub returns-in_err-each : goal.returns-in_err-each
returns-in_err-each c =
    let p = err_from_is_err_and c.from_residual-in_err-each.result c.from_residual-in_err-each.ensures.1 in
    let three : c.in_ok-number.number ≡ 3 = omega (arith, c.if-number-eq3.true) in
    let over : Went c.args.self.now c.number.new.self (number_line 3 ∷ []) = subst (λ (n : ℕ). Went c.args.self.now c.number.new.self (number_line n ∷ [])) three (went c.in_ok-number.ensures) in
    rw (p.1, p.2) (refused _ _ (λ (version : Version). Unit {0}) lines_of_version _ c.args.self.now c.number.new.self c.in_err-each.field-0.0 stands_mode over c.in_err-each.ensures)

pub returns-in_ok-each : goal.returns-in_ok-each
returns-in_ok-each c =
    let three : c.in_ok-number.number ≡ 3 = omega (arith, c.if-number-eq3.true) in
    let over : Went c.args.self.now c.number.new.self (number_line 3 ∷ []) = subst (λ (n : ℕ). Went c.args.self.now c.number.new.self (number_line n ∷ [])) three (went c.in_ok-number.ensures) in
    is_read (λ (version : Version). Unit {0}) lines_of_version (version_with c.in_ok-each.each true) tt (went_on over (went c.in_ok-each.ensures))

pub returns-else-number-eq3 : goal.returns-else-number-eq3
returns-else-number-eq3 c =
    let is = c.in_ok-number.ensures.is_value in
    let number = c.in_ok-number.number in
    is_read (λ (version : Version). Unit {0}) lines_of_version (version_with (number == 2) false) tt
    (subst (λ (lines : List (List ℕ)). Went c.args.self.now c.number.new.self lines) (read_older number is.0 is.1 (λ e. omega (arith, e, c.if-number-eq3.false))) (went c.in_ok-number.ensures))
