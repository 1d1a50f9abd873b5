use Rattle.std.proofs.Common.{◌≡◌, ◌≤◌, ◌-◌, ℕ, false, nat_eq, arith, ap, sym, ◌∙◌}
use Rattle.std.proofs.lemmas.Bool.Decides.{nat_tests}
use Rattle.std.specs.List.{list_any}
use Rattle.std.specs.Prelude.{◌==◌}
use Rattle.landmark_rules.specs.Rules.{distances, is_fit}
use Rattle.landmark_rules.specs.declared.marks.Rule.{Rule}
use Rattle.landmark_rules.specs.declared.marks.Rule.TheVariants.{At, Either, Every}
use Rattle.landmark_rules.proofs.Distances.{fit_before, fit_from}
use Rattle.landmark_rules.proofs.counting.fits.Goals as goal

-- a test of a distance by the rule's variant
at_rule : (rule same : Rule) (origin v distance : ℕ) → origin ≤ v → distance ≡ v - origin → rule ≡ same →
    is_fit rule origin v ≡ list_any (λ d. d == distance) (distances same)
at_rule rule same origin v distance from e is =
    fit_from rule origin v distance from e ∙ ap (λ (r : Rule). list_any (λ d. d == distance) (distances r)) is

at_one : (d distance : ℕ) → nat_eq distance d ≡ list_any (λ x. x == distance) (distances (At d))
at_one d distance = grind (arith, nat_tests)

at_first : (d e distance : ℕ) → distance ≡ d → nat_eq distance d ≡ list_any (λ x. x == distance) (distances (Either d e))
at_first d e distance h = grind (arith, nat_tests)

at_second : (d e distance : ℕ) → nat_eq distance d ≡ false → nat_eq distance e ≡ list_any (λ x. x == distance) (distances (Either d e))
at_second d e distance h = grind (arith, nat_tests)

pub returns-in_default : goal.returns-in_default
returns-in_default c = sym (fit_before c.args.rule.now c.args.origin c.args.volume_sector (omega (arith, c.in_default.ensures)))

pub returns-in-At : goal.returns-in-At
returns-in-At c =
    at_one c.in-At.only c.in-Some.distance
    ∙ sym (at_rule c.args.rule.now (At c.in-At.only) c.args.origin c.args.volume_sector c.in-Some.distance
    (omega (arith, c.in-Some.ensures)) (omega (arith, c.in-Some.ensures)) c.in-At.is)

pub returns-then-distance-first : goal.returns-then-distance-first
returns-then-distance-first c =
    at_first c.in-Either.first c.in-Either.second c.in-Some.distance c.if-distance-first.true
    ∙ sym (at_rule c.args.rule.now (Either c.in-Either.first c.in-Either.second) c.args.origin c.args.volume_sector c.in-Some.distance
    (omega (arith, c.in-Some.ensures)) (omega (arith, c.in-Some.ensures)) c.in-Either.is)

pub returns-else-distance-first : goal.returns-else-distance-first
returns-else-distance-first c =
    let apart : nat_eq c.in-Some.distance c.in-Either.first ≡ false = grind (arith, nat_tests, c.if-distance-first.false) in
    at_second c.in-Either.first c.in-Either.second c.in-Some.distance apart
    ∙ sym (at_rule c.args.rule.now (Either c.in-Either.first c.in-Either.second) c.args.origin c.args.volume_sector c.in-Some.distance
    (omega (arith, c.in-Some.ensures)) (omega (arith, c.in-Some.ensures)) c.in-Either.is)

pub returns-in-Every : goal.returns-in-Every
returns-in-Every c =
    c.is_every.ensures
    ∙ sym (at_rule c.args.rule.now (Every c.in-Every.step c.in-Every.count c.in-Every.plus) c.args.origin c.args.volume_sector c.in-Some.distance
    (omega (arith, c.in-Some.ensures)) (omega (arith, c.in-Some.ensures)) c.in-Every.is)
