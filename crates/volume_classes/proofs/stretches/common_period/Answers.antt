use Rattle.std.proofs.Common.{◌≡◌, ◌*◌, ◌∙◌, ℕ, ap, ap₂, arith}
use Rattle.volume_classes.specs.Coefficients.{period, turns}
use Rattle.volume_classes.proofs.Turns.{few_apart, few_rows, few_shared}
use Rattle.volume_classes.proofs.stretches.common_period.Goals as goal

pub overflow_mul-result-then-one-other : goal.overflow_mul-result-then-one-other
overflow_mul-result-then-one-other c =
    let same : c.args.one.now.delay * (c.from-one_turns.result * c.from-other_turns.result) ≡ c.args.one.now.delay * (turns c.args.one.now * turns c.args.other.now)
    = ap₂ (λ (m n : ℕ). c.args.one.now.delay * (m * n)) (c.from-one_turns.ensures ∙ c.turns.ensures) (c.from-other_turns.ensures ∙ c.turns-2.ensures) in
    let most = few_shared c.args.one.now c.args.other.now c.requires.one c.requires.other in
    omega arith

pub overflow_mul-result-else-one-other-2 : goal.overflow_mul-result-else-one-other-2
overflow_mul-result-else-one-other-2 c =
    let same : c.args.other.now.delay * c.from-other_turns.result ≡ period c.args.other.now = ap (λ (n : ℕ). c.args.other.now.delay * n) (c.from-other_turns.ensures ∙ c.turns-2.ensures) in
    let most = few_rows c.args.other.now c.requires.other in
    omega arith

pub overflow_mul-result-else-one-other-3 : goal.overflow_mul-result-else-one-other-3
overflow_mul-result-else-one-other-3 c =
    let same : c.args.one.now.delay * c.from-one_turns.result * (c.args.other.now.delay * c.from-other_turns.result) ≡ period c.args.one.now * period c.args.other.now
    = ap₂ (λ (m n : ℕ). c.args.one.now.delay * m * (c.args.other.now.delay * n)) (c.from-one_turns.ensures ∙ c.turns.ensures) (c.from-other_turns.ensures ∙ c.turns-2.ensures) in
    let most = few_apart c.args.one.now c.args.other.now c.requires.one c.requires.other in
    omega arith

pub returns-then-one-other-clause-few : goal.returns-then-one-other-clause-few
returns-then-one-other-clause-few c =
    let same : c.args.one.now.delay * (c.from-one_turns.result * c.from-other_turns.result) ≡ c.args.one.now.delay * (turns c.args.one.now * turns c.args.other.now)
    = ap₂ (λ (m n : ℕ). c.args.one.now.delay * (m * n)) (c.from-one_turns.ensures ∙ c.turns.ensures) (c.from-other_turns.ensures ∙ c.turns-2.ensures) in
    let most = few_shared c.args.one.now c.args.other.now c.requires.one c.requires.other in
    omega arith

pub returns-else-one-other-clause-few : goal.returns-else-one-other-clause-few
returns-else-one-other-clause-few c =
    let same : c.args.one.now.delay * c.from-one_turns.result * (c.args.other.now.delay * c.from-other_turns.result) ≡ period c.args.one.now * period c.args.other.now
    = ap₂ (λ (m n : ℕ). c.args.one.now.delay * m * (c.args.other.now.delay * n)) (c.from-one_turns.ensures ∙ c.turns.ensures) (c.from-other_turns.ensures ∙ c.turns-2.ensures) in
    let most = few_apart c.args.one.now c.args.other.now c.requires.one c.requires.other in
    omega arith
