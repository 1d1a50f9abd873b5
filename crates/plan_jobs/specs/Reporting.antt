-- What is asked of a set that `check` reports on.
use Rattle.std.specs.Prelude.{ℕ, ◌≡◌, ◌<◌, ◌^◌, true}
use Rattle.raid_params.specs.Validity.{is_shaped}
use Rattle.raid_params.specs.declared.types.Geometry.{Geometry}
use Rattle.search_plan.specs.declared.plan.Plan.{Plan}

-- a set of a sensible shape, and a plan's end that is near enough
pub record IsReported (set : Geometry) (plan : Plan) : Type 0 where
  pub shaped : (images : ℕ) × (is_shaped set images ≡ true)
  pub offset : set.head.offset < 2 ^ 55
  pub near : plan.end < 2 ^ 55
