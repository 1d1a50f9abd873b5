use Rattle.std.proofs.Common.{arith}
use Rattle.lane_kernels.specs.Formulas.{weighed_sum}
use Rattle.lane_kernels.proofs.Steps.{written_block, written_one}
use Rattle.lane_kernels.proofs.factors.weigh.Goals as goal

pub loop-at-preserved : goal.loop-at-preserved
loop-at-preserved c =
    rw c.weigh_block.ensures
    (written_block (weighed_sum c.args.by_p.now.factor c.args.by_q.now.factor) c.loop-at.to c.args.p.now c.args.q.now c.loop-at.at 32 (omega arith) c.loop-at.invariant)

pub loop-at-2-preserved : goal.loop-at-2-preserved
loop-at-2-preserved c =
    rw c.weigh_byte.ensures
    (written_one (weighed_sum c.args.by_p.now.factor c.args.by_q.now.factor) c.loop-at-2.to c.args.p.now c.args.q.now c.loop-at-2.at (omega arith) c.loop-at-2.invariant)
