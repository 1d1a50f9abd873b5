use Rattle.std.proofs.Common.{◌≡◌, ◌∷◌, [], refl, lit≤, lit<, ap, sym, subst, false}
use Rattle.std.proofs.lemmas.Result.{err_from_is_err_and}
use Rattle.raid_params.specs.declared.types.Pattern.TheVariants.{Plain}
use Rattle.value_text.specs.Bounded.{AreDelays}
use Rattle.plan_text.specs.declared.parts.AfterPatterns.{AfterPatterns}
use Rattle.plan_text.specs.declared.parts.AfterPatterns.TheVariants.{Delays, Syndromes}
use Rattle.plan_text.specs.Parts.{AreArrays, MayComeAfter, line_after, lines_of_arrays}
use Rattle.plan_text.specs.PlanText.{some_delays}
use Rattle.plan_text.proofs.SectionLines.{are_arrays, delayed_lines, is_one_delay, other_version, single_lines, stands_after, stands_levels, stands_members, stands_patterns, stands_syndromes}
use Rattle.plan_text.proofs.Refusals.{Went, went, went_on, nowhere, is_read, refused}
use Rattle.plan_text.proofs.reader.PlanReader.arrays.Goals as goal

pub list-requires-2 : goal.list-requires-2
list-requires-2 c = (lit< tt, (refl, ((Plain, tt), lit≤ tt)))

pub returns-in_err-levels : goal.returns-in_err-levels
returns-in_err-levels c =
    let p = err_from_is_err_and c.from_residual.result c.from_residual.ensures.1 in
    rw (p.1, p.2) (refused _ _ (AreArrays c.args.third) lines_of_arrays _ c.args.self.now c.args.self.now c.in_err-levels.field-0.0 (stands_levels c.args.third) (nowhere _) c.in_err-levels.ensures)

pub returns-in_err-members : goal.returns-in_err-members
returns-in_err-members c =
    let p = err_from_is_err_and c.from_residual-in_err-members.result c.from_residual-in_err-members.ensures.1 in
    rw (p.1, p.2) (refused _ _ (AreArrays c.args.third) lines_of_arrays _ c.args.self.now c.list.new.self c.in_err-members.field-0.0 (stands_members c.args.third c.in_ok-levels.levels c.in_ok-levels.ensures.is_value.0) (went c.in_ok-levels.ensures) c.in_err-members.ensures)

pub returns-in_err-patterns : goal.returns-in_err-patterns
returns-in_err-patterns c =
    let p = err_from_is_err_and c.from_residual-in_err-patterns.result c.from_residual-in_err-patterns.ensures.1 in
    rw (p.1, p.2) (refused _ _ (AreArrays c.args.third) lines_of_arrays _ c.args.self.now c.members.new.self c.in_err-patterns.field-0.0 (stands_patterns c.args.third c.in_ok-levels.levels c.in_ok-members.members c.in_ok-levels.ensures.is_value.0 c.in_ok-members.ensures.is_value) (went_on (went c.in_ok-levels.ensures) (went c.in_ok-members.ensures)) c.in_err-patterns.ensures)

pub returns-in_err-delays : goal.returns-in_err-delays
returns-in_err-delays c =
    let p = err_from_is_err_and c.from_residual-in_err-delays.result c.from_residual-in_err-delays.ensures.1 in
    rw (p.1, p.2) (refused _ _ (AreArrays c.args.third) lines_of_arrays _ c.args.self.now c.list-2.new.self c.in_err-delays.field-0.0
    (stands_after c.args.third c.in_ok-levels.levels c.in_ok-members.members c.in_ok-patterns.patterns c.in_ok-levels.ensures.is_value.0 c.in_ok-members.ensures.is_value c.in_ok-patterns.ensures.is_value.0)
    (went_on (went_on (went c.in_ok-levels.ensures) (went c.in_ok-members.ensures)) (went c.in_ok-patterns.ensures)) c.in_err-delays.ensures)

pub returns-in_err-syndromes-in-Delays : goal.returns-in_err-syndromes-in-Delays
returns-in_err-syndromes-in-Delays c =
    let p = err_from_is_err_and c.from_residual-in_err-syndromes-in-Delays.result c.from_residual-in_err-syndromes-in-Delays.ensures.1 in
    let is : MayComeAfter c.args.third (Delays c.in-Delays.delays) = subst (MayComeAfter c.args.third) c.in-Delays.is c.in_ok-delays.ensures.is_value in
    let over = subst (λ (what : AfterPatterns). Went c.list-2.new.self c.after_patterns.new.self (line_after what ∷ [])) c.in-Delays.is (went c.in_ok-delays.ensures) in
    rw (p.1, p.2) (refused _ _ (AreArrays c.args.third) lines_of_arrays _ c.args.self.now c.after_patterns.new.self c.in_err-syndromes-in-Delays.field-0.0
    (stands_syndromes c.args.third c.in_ok-levels.levels c.in_ok-members.members c.in_ok-patterns.patterns c.in-Delays.delays c.in_ok-levels.ensures.is_value.0 c.in_ok-members.ensures.is_value c.in_ok-patterns.ensures.is_value.0 is)
    (went_on (went_on (went_on (went c.in_ok-levels.ensures) (went c.in_ok-members.ensures)) (went c.in_ok-patterns.ensures)) over) c.in_err-syndromes-in-Delays.ensures)

pub returns-in_ok-syndromes-in-Delays : goal.returns-in_ok-syndromes-in-Delays
returns-in_ok-syndromes-in-Delays c =
    let is : MayComeAfter c.args.third (Delays c.in-Delays.delays) = subst (MayComeAfter c.args.third) c.in-Delays.is c.in_ok-delays.ensures.is_value in
    let over = subst (λ (what : AfterPatterns). Went c.list-2.new.self c.after_patterns.new.self (line_after what ∷ [])) c.in-Delays.is (went c.in_ok-delays.ensures) in
    let lines = went_on (went_on (went_on (went_on (went c.in_ok-levels.ensures) (went c.in_ok-members.ensures)) (went c.in_ok-patterns.ensures)) over) (went c.in_ok-syndromes-in-Delays.ensures) in
    is_read (AreArrays c.args.third) lines_of_arrays _
    (are_arrays c.args.third c.in_ok-levels.levels c.in_ok-members.members c.in_ok-patterns.patterns c.in-Delays.delays c.in_ok-syndromes-in-Delays.syndromes c.in_ok-levels.ensures.is_value.0 c.in_ok-members.ensures.is_value c.in_ok-patterns.ensures.is_value.0 is.1 (other_version is.0) c.in_ok-syndromes-in-Delays.ensures.is_value.0)
    (subst (Went c.args.self.now c.list-in-Delays.new.self) (delayed_lines c.in_ok-levels.levels c.in_ok-members.members c.in_ok-patterns.patterns c.in-Delays.delays c.in_ok-syndromes-in-Delays.syndromes is.2) lines)

pub returns-in-Syndromes : goal.returns-in-Syndromes
returns-in-Syndromes c =
    let is : MayComeAfter c.args.third (Syndromes c.in-Syndromes.syndromes) = subst (MayComeAfter c.args.third) c.in-Syndromes.is c.in_ok-delays.ensures.is_value in
    let over = subst (λ (what : AfterPatterns). Went c.list-2.new.self c.after_patterns.new.self (line_after what ∷ [])) c.in-Syndromes.is (went c.in_ok-delays.ensures) in
    let lines = went_on (went_on (went_on (went c.in_ok-levels.ensures) (went c.in_ok-members.ensures)) (went c.in_ok-patterns.ensures)) over in
    let delays = c.one_delay.result in
    let one : some_delays delays.items ≡ false = ap some_delays c.one_delay.ensures in
    is_read (AreArrays c.args.third) lines_of_arrays _
    (are_arrays c.args.third c.in_ok-levels.levels c.in_ok-members.members c.in_ok-patterns.patterns delays c.in-Syndromes.syndromes c.in_ok-levels.ensures.is_value.0 c.in_ok-members.ensures.is_value c.in_ok-patterns.ensures.is_value.0 (subst AreDelays (sym c.one_delay.ensures) is_one_delay) (λ e. one) is.0)
    (subst (Went c.args.self.now c.after_patterns.new.self) (single_lines c.in_ok-levels.levels c.in_ok-members.members c.in_ok-patterns.patterns delays c.in-Syndromes.syndromes one) lines)
