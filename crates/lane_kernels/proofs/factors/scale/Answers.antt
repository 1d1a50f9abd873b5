use Rattle.std.proofs.Common.{arith}
use Rattle.gf256.specs.Field.{product}
use Rattle.lane_kernels.proofs.Steps.{done_block_alone, done_one, alone}
use Rattle.lane_kernels.proofs.factors.scale.Goals as goal

pub loop-at-preserved : goal.loop-at-preserved
loop-at-preserved c =
    rw (c.scale_block.ensures, c.new-by.ensures)
    (done_block_alone (product c.args.factor) c.loop-at.a c.args.a.now c.loop-at.at 32 (omega arith) c.loop-at.invariant)

pub loop-at-2-preserved : goal.loop-at-2-preserved
loop-at-2-preserved c =
    rw c.mul.ensures
    (done_one (alone (product c.args.factor)) c.loop-at-2.a c.args.a.now c.args.a.now c.loop-at-2.at (omega arith) c.loop-at-2.invariant)
