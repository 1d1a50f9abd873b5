use Rattle.std.proofs.Common.{length, ◌+◌, ◌-◌}
use Rattle.gf256.specs.Field.{product}
use Rattle.lane_kernels.proofs.Steps.{Done, alone}
use Rattle.lane_kernels.proofs.factors.scale.Given as goal

abbrev pub invariant-loop-at : goal.invariant-loop-at
invariant-loop-at l = Done (alone (product l.factor)) l.a l.initial.a l.initial.a l.at

abbrev pub decreases-loop-at : goal.decreases-loop-at
decreases-loop-at l = length l.initial.a + 1 - l.at

abbrev pub invariant-loop-at-2 : goal.invariant-loop-at-2
invariant-loop-at-2 l = Done (alone (product l.factor)) l.a l.fn.a l.fn.a l.at

abbrev pub decreases-loop-at-2 : goal.decreases-loop-at-2
decreases-loop-at-2 l = length l.initial.a - l.at
