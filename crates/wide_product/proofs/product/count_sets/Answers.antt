use Rattle.std.proofs.Common.{arith}
use Rattle.wide_product.proofs.Products.{no_more}
use Rattle.wide_product.proofs.product.count_sets.Goals as goal

pub returns-in-None : goal.returns-in-None
returns-in-None c = let more = no_more c.args.plan.now c.requires in let many = c.in-None.ensures in omega arith
