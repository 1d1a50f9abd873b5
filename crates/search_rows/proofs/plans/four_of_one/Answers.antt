use Rattle.std.proofs.Common.{arith, refl}
use Rattle.raid_params.specs.Validity.{is_chunk}
use Rattle.search_rows.proofs.TestPlans.{keeps_rules, plan_is}
use Rattle.search_rows.proofs.plans.four_of_one.Goals as goal

pub returns-clause-plan : goal.returns-clause-plan
unfolding keeps_rules is_chunk
returns-clause-plan c = rw c.four.ensures (plan_is _ refl refl)

pub returns-clause-levels : goal.returns-clause-levels
returns-clause-levels c = rw c.four.ensures (0, omega arith, refl)
