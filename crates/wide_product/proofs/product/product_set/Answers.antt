use Rattle.std.proofs.Common.{arith}
use Rattle.wide_product.proofs.Products.{part_space, common_set, common_total}
use Rattle.wide_product.proofs.product.product_set.Goals as goal

pub product_set-requires-clause-few : goal.product_set-requires-clause-few
product_set-requires-clause-few c = let same = common_total c.args.plan.now c.if-not-plan.true in let few = c.requires.few in omega arith

pub product_set-requires-clause-rank : goal.product_set-requires-clause-rank
product_set-requires-clause-rank c = let same = common_total c.args.plan.now c.if-not-plan.true in let below = c.requires.rank in omega arith

pub returns-then-not-plan : goal.returns-then-not-plan
returns-then-not-plan c = common_set c.args.plan.now c.args.rank c.product_set.result c.new.result.items c.if-not-plan.true c.product_set.ensures c.new.ensures

pub unrank-slots-requires-clause-images : goal.unrank-slots-requires-clause-images
unrank-slots-requires-clause-images c = (part_space c.args.plan.now c.part_at-part.result c.requires.plan c.part_at-part.ensures.part).0

pub unrank-slots-requires-clause-members : goal.unrank-slots-requires-clause-members
unrank-slots-requires-clause-members c = (part_space c.args.plan.now c.part_at-part.result c.requires.plan c.part_at-part.ensures.part).1
