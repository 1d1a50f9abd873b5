use Rattle.std.proofs.Common.{arith}
use Rattle.lane_kernels.specs.Formulas.{scaled_sum}
use Rattle.lane_kernels.proofs.Steps.{done_block, done_one}
use Rattle.lane_kernels.proofs.factors.scale_xor.Goals as goal

pub loop-at-preserved : goal.loop-at-preserved
loop-at-preserved c =
    rw (c.scale_xor_block.ensures, c.new-by.ensures)
    (done_block (scaled_sum c.args.factor) c.loop-at.a c.args.a.now c.args.b.now c.loop-at.at 32 (omega arith) c.loop-at.invariant)

pub loop-at-2-preserved : goal.loop-at-2-preserved
loop-at-2-preserved c =
    rw c.scale_xor_byte.ensures
    (done_one (scaled_sum c.args.factor) c.loop-at-2.a c.args.a.now c.args.b.now c.loop-at-2.at (omega arith) c.loop-at-2.invariant)
