use Rattle.std.proofs.Common.{◌≡◌, ◌∙◌, ℕ, ◌≤◌, List, length, take, subst, ap, sym, arith}
use Rattle.landmark_rules.specs.declared.limits.TheConstants.{MOST_ORIGINS}
use Rattle.survey_engine.proofs.Numbers.{all_taken}
use Rattle.survey_engine.specs.Kept.{with_number}
use Rattle.survey_engine.proofs.hints.add_origin.Goals as goal

pub returns-in_default : goal.returns-in_default
returns-in_default c =
    let same : with_number c.args.origins.now.items c.args.number ≡ c.args.origins.now.items = subst (λ (l : List ℕ). with_number l c.args.number ≡ l) c.as_slice.ensures.value c.in_default.ensures in
    let few : length c.args.origins.now.items ≤ MOST_ORIGINS = omega (arith, ap length c.as_slice.ensures.value) in
    sym (ap (take MOST_ORIGINS) same ∙ all_taken MOST_ORIGINS c.args.origins.now.items few)
