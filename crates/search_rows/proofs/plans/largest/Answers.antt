use Rattle.std.proofs.Common.{refl}
use Rattle.raid_params.specs.Validity.{is_chunk}
use Rattle.search_rows.proofs.TestPlans.{keeps_rules, of_items, plan_is}
use Rattle.search_rows.proofs.plans.largest.Goals as goal

pub returns : goal.returns
unfolding keeps_rules is_chunk
returns c = rw (c.small-plan.ensures, of_items c.filled-plan.ensures, of_items c.filled-plan-2.ensures, of_items c.filled-plan-3.ensures, of_items c.filled-plan-4.ensures, of_items c.filled-plan-5.ensures, of_items c.filled-plan-6.ensures) (plan_is _ refl refl)
