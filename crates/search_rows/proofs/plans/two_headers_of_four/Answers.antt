use Rattle.std.proofs.Common.{arith, refl}
use Rattle.raid_params.specs.Validity.{is_chunk}
use Rattle.search_rows.proofs.TestPlans.{headers_plan_is, keeps_rules}
use Rattle.search_rows.proofs.plans.two_headers_of_four.Goals as goal

pub returns : goal.returns
unfolding keeps_rules is_chunk
returns c = rw (c.small-plan.ensures, c.in_ok-plan.ensures) (headers_plan_is _ refl (omega arith) (omega arith) refl, refl, (0, omega arith, refl))
