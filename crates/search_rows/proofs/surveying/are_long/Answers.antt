use Rattle.std.proofs.Common.{arith, rules, below_more}
use Rattle.image_source.specs.Memory.{seen_of}
use Rattle.search_rows.proofs.TestAsks.{are_long, is_long}
use Rattle.search_rows.proofs.surveying.are_long.Goals as goal

pub loop-image-preserved : goal.loop-image-preserved
loop-image-preserved c = below_more _ _ c.loop-image.invariant (is_long (seen_of c.args.images.now).attached c.args.end c.loop-image.image (search rules))

pub returns : goal.returns
returns c = λ none. are_long (seen_of c.args.images.now).attached c.args.count c.loop-image.image c.args.end c.length.result c.is_none.result (omega arith) (omega arith) c.loop-image.invariant c.length.ensures c.is_none.ensures none
