use Rattle.std.proofs.Common.{length, ◌+◌, ◌-◌}
use Rattle.lane_kernels.specs.Formulas.{scaled_sum}
use Rattle.lane_kernels.proofs.Steps.{Done}
use Rattle.lane_kernels.proofs.factors.scale_xor.Given as goal

abbrev pub invariant-loop-at : goal.invariant-loop-at
invariant-loop-at l = Done (scaled_sum l.factor) l.a l.initial.a l.b l.at

abbrev pub decreases-loop-at : goal.decreases-loop-at
decreases-loop-at l = length l.initial.a + 1 - l.at

abbrev pub invariant-loop-at-2 : goal.invariant-loop-at-2
invariant-loop-at-2 l = Done (scaled_sum l.factor) l.a l.fn.a l.b l.at

abbrev pub decreases-loop-at-2 : goal.decreases-loop-at-2
decreases-loop-at-2 l = length l.initial.a - l.at
