-- Laws of parameter sets whose images may have offsets of their own.
use Rattle.std.specs.Prelude.{ℕ, ◌≡◌, ◌↔◌, true, slice_get}
use Rattle.std.specs.List.{flat_map}
use Rattle.std.specs.declared.option.Option.TheVariants.{Some}
use Rattle.search_plan.specs.Plans.{IsPlan}
use Rattle.search_plan.specs.declared.plan.Plan.{Plan}
use Rattle.wide_product.specs.Parts.{parts_of}
use Rattle.wide_product.specs.Sets.{wide_rank, wide_sets, Based}

-- a set stands at a rank exactly where that is its rank: no set stands twice
abbrev pub RanksAndSetsUndo : Type 0
RanksAndSetsUndo = (plan : Plan) → IsPlan plan → (rank : ℕ) (set : Based) → (slice_get (wide_sets plan) rank ≡ Some set) ↔ (wide_rank plan set ≡ Some rank)

-- the sets of a plan whose images have an offset each are those of its parts, part after part
abbrev pub PartsMakeTheProduct : Type 0
PartsMakeTheProduct = (plan : Plan) → plan.each ≡ true → wide_sets plan ≡ flat_map (λ sets. sets) (parts_of plan)
