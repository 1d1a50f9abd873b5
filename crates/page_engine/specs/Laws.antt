-- Laws of hopeful prefixes, also where each image has an offset of its own.
use Rattle.std.specs.Prelude.{ℕ, ◌≡◌, true, Bool, List, [], ◌∷◌, take, slice_get}
use Rattle.std.specs.declared.option.Option.{Option}
use Rattle.std.specs.declared.option.Option.TheVariants.{Some}
use Rattle.landmark_rules.specs.Groups.{groups_hold}
use Rattle.mark_tables.specs.Marks.{groups_may_hold}
use Rattle.padded_images.specs.Plans.{padded_plan}
use Rattle.prune_filters.specs.Hopeful.{is_hopeful}
use Rattle.raid_params.specs.declared.types.Head.{Head}
use Rattle.search_plan.specs.declared.plan.Plan.{Plan}
use Rattle.wide_product.specs.Sets.{padded_bytes, wide_passes, wide_sets, Based}

-- a prefix is hopeful for a head with bases, over the bytes of the images: where there are bases, for the padded plan and over the
-- padded bytes
abbrev pub is_hopeful_with : List (List ℕ) → Plan → Head → List ℕ → List (Option ℕ) → Bool
is_hopeful_with images plan head [] prefix = is_hopeful images plan head prefix
is_hopeful_with images plan head (base ∷ bases) prefix = is_hopeful (padded_bytes (base ∷ bases) images) (padded_plan (base ∷ bases) plan) head prefix

-- where a set of a plan passes, over any bytes of the images, each prefix of its slots is hopeful
abbrev pub PassingSetsAreHopeful : Type 0
PassingSetsAreHopeful = (images : List (List ℕ)) (plan : Plan) (rank : ℕ) (set : Based) (count : ℕ) →
    slice_get (wide_sets plan) rank ≡ Some set → wide_passes images plan set ≡ true → is_hopeful_with images plan set.0.head set.1 (take count set.0.slots.items) ≡ true

-- on the whole slot list of a set of a plan, the groups of the padded plan may hold exactly where they hold
abbrev pub WholeListsTakeTheLandmarkTest : Type 0
WholeListsTakeTheLandmarkTest = (plan : Plan) (rank : ℕ) (set : Based) → slice_get (wide_sets plan) rank ≡ Some set →
    groups_may_hold (padded_plan set.1 plan) set.0.head set.0.slots.items ≡ groups_hold set.0 plan.end plan.tests (padded_plan set.1 plan).groups
