-- What holds of the texts of all plans.
use Rattle.std.specs.Prelude.{◌≤◌, length}
use Rattle.search_plan.specs.Plans.{IsPlan}
use Rattle.search_plan.specs.declared.limits.TheConstants.{PLAN_BYTES}
use Rattle.search_plan.specs.declared.plan.Plan.{Plan}
use Rattle.plan_text.specs.PlanText.{plan_text}

-- no plan has a text that is too long to be read: so the plan that a survey prints can be
abbrev pub NoPlanIsTooLong : Type 0
NoPlanIsTooLong = (plan : Plan) → IsPlan plan → length (plan_text plan) ≤ PLAN_BYTES
