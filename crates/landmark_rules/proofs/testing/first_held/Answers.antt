use Rattle.std.proofs.Common.{below_more, sym, arith, ◌∙◌}
use Rattle.landmark_rules.specs.Groups.{holds_at}
use Rattle.landmark_rules.proofs.Ranges.{found_nowhere}
use Rattle.landmark_rules.proofs.testing.first_held.Goals as goal

pub loop-origin-preserved : goal.loop-origin-preserved
loop-origin-preserved c = below_more _ _ c.loop-origin.invariant (sym c.holds_at.ensures ∙ c.if-holds_at.false)

pub returns : goal.returns
returns c = sym (found_nowhere (holds_at c.args.geo.now c.args.end c.args.tests.now c.args.group.now) c.args.origins.now (λ k h. c.loop-origin.invariant k (omega arith)))
