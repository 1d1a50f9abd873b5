-- Laws of parameter sets and their ranks.
use Rattle.std.specs.Prelude.{ℕ, ◌≡◌, ◌↔◌, true, slice_get}
use Rattle.std.specs.declared.option.Option.TheVariants.{Some}
use Rattle.raid_params.specs.declared.types.Geometry.{Geometry}
use Rattle.search_plan.specs.Plans.{IsPlan}
use Rattle.search_plan.specs.declared.plan.Plan.{Plan}
use Rattle.plan_sets.specs.Sets.{is_same_set, rank_of, sets_of}

-- two sets are the same exactly where they are equal
abbrev pub SameSetsAreEqual : Type 0
SameSetsAreEqual = (a b : Geometry) → (is_same_set a b ≡ true) ↔ (a ≡ b)

-- a set stands at a rank exactly where that is its rank: no set stands twice
abbrev pub RanksAndSetsUndo : Type 0
RanksAndSetsUndo = (plan : Plan) → IsPlan plan → (rank : ℕ) (geo : Geometry) → (slice_get (sets_of plan) rank ≡ Some geo) ↔ (rank_of plan geo ≡ Some rank)
