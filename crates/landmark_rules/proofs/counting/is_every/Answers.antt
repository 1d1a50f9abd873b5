use Rattle.std.proofs.Common.{◌≡◌, ◌%◌, ◌/◌, ◌&&◌, ◌∙◌, Bool, true, false, nat_eq, nat_lt, arith, ap, sym}
use Rattle.std.proofs.lemmas.Bool.Decides.{nat_tests}
use Rattle.landmark_rules.proofs.Distances.{every_short, every_still, every_step}
use Rattle.landmark_rules.proofs.counting.is_every.Goals as goal

pub returns-in_default : goal.returns-in_default
returns-in_default c = every_short c.args.distance c.args.step c.args.count c.args.plus (omega (arith, c.in_default.ensures))

pub returns-then-beyond-eq0 : goal.returns-then-beyond-eq0
returns-then-beyond-eq0 c =
    let t : nat_eq c.in-Some.beyond 0 ≡ true = grind (arith, nat_tests, c.if-beyond-eq0.true) in
    ap (λ (b : Bool). b && nat_lt 0 c.args.count) (sym t)
    ∙ every_still c.args.distance c.args.step c.args.count c.args.plus c.in-Some.beyond (omega (arith, c.if-step-eq0.true)) (omega (arith, c.in-Some.ensures)) (omega (arith, c.in-Some.ensures))

pub returns-else-beyond-eq0 : goal.returns-else-beyond-eq0
returns-else-beyond-eq0 c =
    let t : nat_eq c.in-Some.beyond 0 ≡ false = grind (arith, nat_tests, c.if-beyond-eq0.false) in
    t ∙ ap (λ (b : Bool). b && nat_lt 0 c.args.count) (sym t)
    ∙ every_still c.args.distance c.args.step c.args.count c.args.plus c.in-Some.beyond (omega (arith, c.if-step-eq0.true)) (omega (arith, c.in-Some.ensures)) (omega (arith, c.in-Some.ensures))

pub returns-then-beyond-step-eq0 : goal.returns-then-beyond-step-eq0
returns-then-beyond-step-eq0 c =
    let t : nat_eq (c.in-Some.beyond % c.args.step) 0 ≡ true = grind (arith, nat_tests, c.if-beyond-step-eq0.true) in
    ap (λ (b : Bool). b && nat_lt (c.in-Some.beyond / c.args.step) c.args.count) (sym t)
    ∙ every_step c.args.distance c.args.step c.args.count c.args.plus c.in-Some.beyond (omega (arith, c.if-step-eq0.false)) (omega (arith, c.in-Some.ensures)) (omega (arith, c.in-Some.ensures))

pub returns-else-beyond-step-eq0 : goal.returns-else-beyond-step-eq0
returns-else-beyond-step-eq0 c =
    let t : nat_eq (c.in-Some.beyond % c.args.step) 0 ≡ false = grind (arith, nat_tests, c.if-beyond-step-eq0.false) in
    t ∙ ap (λ (b : Bool). b && nat_lt (c.in-Some.beyond / c.args.step) c.args.count) (sym t)
    ∙ every_step c.args.distance c.args.step c.args.count c.args.plus c.in-Some.beyond (omega (arith, c.if-step-eq0.false)) (omega (arith, c.in-Some.ensures)) (omega (arith, c.in-Some.ensures))
