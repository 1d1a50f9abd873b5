-- The scope of a plan is a scope.
use Rattle.search_plan.specs.Plans.{IsPlan, scope_of}
use Rattle.search_plan.specs.declared.plan.Plan.{Plan}
use Rattle.search_scope.specs.Scopes.{IsScope}

pub plan_scope : (plan : Plan) → IsPlan plan → IsScope (scope_of plan)
plan_scope plan is = record { lengths = is.lengths; ends = is.ends; limits = is.limits }
