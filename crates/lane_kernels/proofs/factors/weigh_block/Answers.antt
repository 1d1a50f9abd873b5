use Rattle.std.proofs.Common.{ap, ap₂, ◌∙◌, map, bit_xor}
use Rattle.gf256.specs.Field.{product}
use lib.Lanes.{put_chunk, chunk, zip2}
use Rattle.lane_kernels.proofs.Nibbles.{weighed_sums}
use Rattle.lane_kernels.proofs.factors.weigh_block.Goals as goal

pub returns : goal.returns
returns c =
    let at = c.args.at in
    let a = c.args.by_p.now.factor in
    let b = c.args.by_q.now.factor in
    ap (put_chunk at c.args.to.now)
    (ap₂ (zip2 bit_xor) (c.times-part.ensures ∙ ap (map (product a)) c.load.ensures.value) (c.times.ensures ∙ ap (map (product b)) c.load-2.ensures.value)
    ∙ weighed_sums a b (chunk at 32 c.args.p.now) (chunk at 32 c.args.q.now))
