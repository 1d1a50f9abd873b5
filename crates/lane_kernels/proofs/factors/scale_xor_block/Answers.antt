use Rattle.std.proofs.Common.{ap, ◌∙◌, map, bit_xor}
use Rattle.gf256.specs.Field.{product}
use lib.Lanes.{put_chunk, chunk, zip2}
use Rattle.lane_kernels.proofs.Nibbles.{scaled_sums}
use Rattle.lane_kernels.proofs.factors.scale_xor_block.Goals as goal

pub returns : goal.returns
returns c =
    let a = c.args.a.now in
    let at = c.args.at in
    let factor = c.args.by.now.factor in
    ap (put_chunk at a) (
    ap (zip2 bit_xor (chunk at 32 a)) (c.times-part.ensures ∙ ap (map (product factor)) c.load.ensures.value)
    ∙ scaled_sums factor (chunk at 32 a) (chunk at 32 c.args.b.now))
