use Rattle.std.proofs.Common.{length, arith}
use Rattle.survey_engine.proofs.Numbers.{at_place, found_at_place}
use Rattle.survey_engine.proofs.hints.place_for.Goals as goal

pub returns-then-number-other : goal.returns-then-number-other
returns-then-number-other c = found_at_place c.args.numbers.now c.args.number c.loop-place.place (omega arith) c.loop-place.invariant (omega arith)

pub returns-then-number-other-2 : goal.returns-then-number-other-2
returns-then-number-other-2 c = (omega arith, at_place c.args.numbers.now c.args.number c.loop-place.place (omega arith) c.loop-place.invariant (λ below. omega arith))

pub returns : goal.returns
returns c = (omega arith, at_place c.args.numbers.now c.args.number (length c.args.numbers.now) (omega arith) (λ k below. c.loop-place.invariant k (omega arith)) (λ below. absurd (omega arith)))
