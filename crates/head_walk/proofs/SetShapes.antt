-- The sets of a plan have a sensible shape.
use Rattle.std.proofs.Common.{ℕ, ◌≡◌, true, length, Some, slice_get}
use Rattle.raid_params.specs.Validity.{is_shaped}
use Rattle.raid_params.specs.declared.types.Geometry.{Geometry}
use Rattle.plan_sets.specs.Sets.{sets_of}
use Rattle.search_plan.specs.Plans.{IsPlan}
use Rattle.search_plan.specs.declared.plan.Plan.{Plan}
use Rattle.set_product.proofs.Shaped.{set_at, shaped_set}

-- a set of the plan has a sensible shape
pub set_shaped : (plan : Plan) (rank : ℕ) (geo : Geometry) → IsPlan plan → slice_get (sets_of plan) rank ≡ Some geo → is_shaped geo (length plan.lengths.items) ≡ true
set_shaped plan rank geo is_plan stands = shaped_set plan geo (set_at plan rank geo is_plan stands)
