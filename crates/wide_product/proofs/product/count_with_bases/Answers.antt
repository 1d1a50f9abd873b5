use Rattle.std.proofs.Common.{◌^◌, ◌∙◌, min, ℕ, length, sym, ap, arith}
use Rattle.plan_sets.specs.Sets.{total_of}
use Rattle.wide_product.specs.Groups.{later_bases}
use Rattle.wide_product.proofs.PartAt.{total_is}
use Rattle.wide_product.proofs.Products.{common_total}
use Rattle.wide_product.proofs.product.count_with_bases.Goals as goal

pub returns-then-plan : goal.returns-then-plan
returns-then-plan c =
    c.count_pairs.ensures (total_of c.args.plan.now) (length (later_bases c.args.plan.now)) (let is = c.requires.common in let from = c.from.ensures in let fits = c.ranges.common in omega arith) c.count_later.ensures
    ∙ ap (λ (n : ℕ). min n (2 ^ 64)) (sym (total_is c.args.plan.now c.requires.plan c.if-plan.true))

pub returns : goal.returns
returns c = let same = common_total c.args.plan.now c.if-plan.false in let is = c.requires.common in let from = c.from-2.ensures in let fits = c.ranges.common in omega arith
