-- Which plans there are: their numbers are within the limits of the tool, and their lists rise.
use Rattle.std.specs.Prelude.{ℕ, true, ◌≡◌, ◌≤◌, ◌<◌, ◌^◌, List, All}
use Rattle.outside.specs.Seen.{Image, lengths_of}
use Rattle.raid_params.specs.declared.types.Bounds.{Bounds}
use Rattle.landmark_rules.specs.Groups.{AreGroups}
pub use Rattle.landmark_rules.specs.Tests.{AreTests}
pub use Rattle.raid_params.specs.Places.{AreRising}
pub use Rattle.search_scope.specs.Scopes.{AreBounds, AreLengths, AreLimits}
use Rattle.search_scope.specs.declared.scope.Scope.{Scope}
use Rattle.search_plan.specs.declared.plan.Plan.{Plan}

-- images with offsets of their own can be moved by them: lengths and offsets are below 2^54, and no image is foreign
pub record AreMovable (lengths : List ℕ) (bounds : Bounds) : Type 0 where
  pub own : bounds.foreign ≡ 0
  pub short : All (λ n. n < 2 ^ 54) lengths
  pub near : All (λ n. n < 2 ^ 54) bounds.offsets.items

-- a plan, part by part; its end is past no image
pub record IsPlan (plan : Plan) : Type 0 where
  pub lengths : AreLengths plan.lengths.items
  pub ends : All (λ n. plan.end ≤ n) plan.lengths.items
  pub bounds : AreBounds plan.bounds
  pub limits : AreLimits plan.limits
  pub tests : AreTests plan.tests
  pub groups : AreGroups plan.lengths.items plan.groups
  pub each : plan.each ≡ true → AreMovable plan.lengths.items plan.bounds

-- the attached images have the planned lengths, and there are no others
abbrev pub AgreeWith : Plan → List Image → Type 0
AgreeWith plan attached = lengths_of attached ≡ plan.lengths.items

-- the scope of a plan: what of the images it tests
abbrev pub scope_of : Plan → Scope
scope_of plan = record { lengths = plan.lengths; end = plan.end; limits = plan.limits }
