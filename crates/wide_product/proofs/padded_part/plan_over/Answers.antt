use Rattle.std.proofs.Common.{◌<◌, ◌^◌, ℕ, List, All, sym, subst}
use Rattle.wide_product.proofs.PartPlan.{near_bases}
use Rattle.wide_product.proofs.padded_part.plan_over.Goals as goal

pub pad_plan-requires-clause-near : goal.pad_plan-requires-clause-near
pad_plan-requires-clause-near c =
    let P : List ℕ → Type 0 = λ l. All (λ base. base < 2 ^ 54) l in
    subst P (sym c.deref.ensures.0) (near_bases c.args.plan.now c.args.part.now c.requires.plan c.requires.each c.requires.part)
