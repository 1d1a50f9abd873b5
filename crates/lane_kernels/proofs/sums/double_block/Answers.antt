use Rattle.std.proofs.Common.{ap}
use Rattle.std.proofs.lemmas.Simd.{length-chunk}
use lib.Lanes.{put_chunk, chunk}
use Rattle.lane_kernels.proofs.Double.{lanes_double}
use Rattle.lane_kernels.proofs.sums.double_block.Goals as goal

pub returns : goal.returns
returns c =
    let a = c.args.a.now in
    let b = c.args.b.now in
    let at = c.args.at in
    rw c.load-x.ensures.value (ap (put_chunk at a) (lanes_double 32 (chunk at 32 a) (chunk at 32 b) (length-chunk at 32 a c.requires.a) (length-chunk at 32 b c.requires.b) (rw c.load-x.ensures.value at c.load-x.ensures.fits)))
