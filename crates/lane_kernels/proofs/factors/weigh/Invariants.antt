use Rattle.std.proofs.Common.{length, ◌+◌, ◌-◌}
use Rattle.lane_kernels.specs.Formulas.{weighed_sum}
use Rattle.lane_kernels.proofs.Steps.{Written}
use Rattle.lane_kernels.proofs.factors.weigh.Given as goal

abbrev pub invariant-loop-at : goal.invariant-loop-at
invariant-loop-at l = Written (weighed_sum l.by_p.factor l.by_q.factor) l.to l.p l.q l.at

abbrev pub decreases-loop-at : goal.decreases-loop-at
decreases-loop-at l = length l.initial.to + 1 - l.at

abbrev pub invariant-loop-at-2 : goal.invariant-loop-at-2
invariant-loop-at-2 l = Written (weighed_sum l.by_p.factor l.by_q.factor) l.to l.p l.q l.at

abbrev pub decreases-loop-at-2 : goal.decreases-loop-at-2
decreases-loop-at-2 l = length l.initial.to - l.at
