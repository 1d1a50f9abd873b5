use Rattle.std.proofs.lemmas.Simd.{length-chunk}
use Rattle.lane_kernels.proofs.Double.{chunk_below}
use Rattle.lane_kernels.proofs.blocks.load.Goals as goal

pub returns-clause-long : goal.returns-clause-long
returns-clause-long c = length-chunk c.args.at 32 c.args.bytes.now c.requires

pub returns-clause-fits : goal.returns-clause-fits
returns-clause-fits c = chunk_below c.args.bytes.now c.args.at 32 c.type_inv.bytes
