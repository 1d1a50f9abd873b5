use Rattle.std.proofs.Common.{arith}
use Rattle.lane_kernels.specs.Formulas.{double_sum}
use Rattle.lane_kernels.proofs.Steps.{done_block, done_one}
use Rattle.lane_kernels.proofs.sums.double_xor.Goals as goal

pub loop-at-preserved : goal.loop-at-preserved
loop-at-preserved c =
    rw c.double_block.ensures
    (done_block double_sum c.loop-at.a c.args.a.now c.args.b.now c.loop-at.at 32 (omega arith) c.loop-at.invariant)

pub loop-at-2-preserved : goal.loop-at-2-preserved
loop-at-2-preserved c =
    rw c.double_byte.ensures
    (done_one double_sum c.loop-at-2.a c.args.a.now c.args.b.now c.loop-at-2.at (omega arith) c.loop-at-2.invariant)
