use Rattle.std.proofs.Common.{arith, bit_xor}
use Rattle.lane_kernels.proofs.Steps.{done_block, done_one}
use Rattle.lane_kernels.proofs.sums.xor_into.Goals as goal

pub loop-at-preserved : goal.loop-at-preserved
loop-at-preserved c =
    rw c.xor_block.ensures
    (done_block bit_xor c.loop-at.a c.args.a.now c.args.b.now c.loop-at.at 32 (omega arith) c.loop-at.invariant)

pub loop-at-2-preserved : goal.loop-at-2-preserved
loop-at-2-preserved c =
    (done_one bit_xor c.loop-at-2.a c.args.a.now c.args.b.now c.loop-at-2.at (omega arith) c.loop-at-2.invariant)
