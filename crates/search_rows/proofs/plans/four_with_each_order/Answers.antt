use Rattle.std.proofs.Common.{refl}
use Rattle.raid_params.specs.Validity.{is_chunk}
use Rattle.search_rows.proofs.TestPlans.{keeps_rules, of_items, plan_is}
use Rattle.search_rows.proofs.plans.four_with_each_order.Goals as goal

pub returns : goal.returns
unfolding keeps_rules is_chunk
returns c = rw (c.four-plan.ensures, of_items c.filled-plan.ensures) (plan_is _ refl refl)
