use Rattle.std.proofs.Common.{◌∙◌, refl, sym, ap, subst, arith}
use Rattle.std.specs.Option.{IsSome}
use Rattle.search_plan.specs.Plans.{IsPlan}
use Rattle.plan_sets.specs.Sets.{rank_of, total_of}
use Rattle.search_plan.specs.declared.plan.Plan.{Plan}
use Rattle.wide_product.proofs.PartPlan.{found_first, padded_few, part_plan_is, padded_part}
use Rattle.wide_product.proofs.Products.{part_space}
use Rattle.wide_product.proofs.padded_part.PaddedPart.of.Goals as goal

pub unrank-requires-clause-images : goal.unrank-requires-clause-images
unrank-requires-clause-images c = (part_space c.args.plan.now c.args.part.now c.requires.plan c.requires.part).0

pub unrank-requires-clause-members : goal.unrank-requires-clause-members
unrank-requires-clause-members c = (part_space c.args.plan.now c.args.part.now c.requires.plan c.requires.part).1

pub product_rank-requires-clause-plan : goal.product_rank-requires-clause-plan
product_rank-requires-clause-plan c = subst IsPlan (sym c.in_ok-plan.ensures.plan) (part_plan_is c.args.plan.now c.args.part.now c.requires.plan c.requires.each c.requires.part)

pub product_rank-requires-clause-few : goal.product_rank-requires-clause-few
product_rank-requires-clause-few c =
    let less = padded_few c.args.plan.now c.args.part.now c.requires.plan c.requires.each c.requires.part in
    let same = ap total_of c.in_ok-plan.ensures.plan in
    let few = c.requires.few in
    omega arith

pub unwrap-first-requires : goal.unwrap-first-requires
unwrap-first-requires c =
    subst IsSome (sym (c.product_rank.ensures
    ∙ ap (λ (p : Plan). rank_of p (record { head = c.args.part.now.head; slots = c.unrank.result })) c.in_ok-plan.ensures.plan
    ∙ found_first c.args.plan.now c.args.part.now c.unrank.result.items c.requires.plan c.requires.each c.requires.part c.unrank.ensures)) refl

pub returns : goal.returns
returns c = record {
  padded = padded_part c.args.plan.now c.args.part.now (record { plan = c.in_ok-plan.plan; first = c.unwrap-first.result }) c.unrank.result.items c.requires.plan c.requires.each c.requires.few c.requires.part c.requires.some
      c.in_ok-plan.ensures.plan c.unrank.ensures (sym c.product_rank.ensures ∙ c.unwrap-first.ensures);
}
