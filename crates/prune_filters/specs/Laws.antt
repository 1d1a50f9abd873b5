-- Laws of hopeful prefixes.
use Rattle.std.specs.Prelude.{ℕ, ◌≡◌, true, List, take, slice_get}
use Rattle.std.specs.declared.option.Option.TheVariants.{Some}
use Rattle.raid_params.specs.declared.types.Geometry.{Geometry}
use Rattle.landmark_rules.specs.Groups.{groups_hold}
use Rattle.raid_terms.specs.Parity.{passes_parity}
use Rattle.plan_sets.specs.Sets.{passes, sets_of}
use Rattle.search_plan.specs.declared.plan.Plan.{Plan}
use Rattle.prune_filters.specs.Hopeful.{is_hopeful}
use Rattle.mark_tables.specs.Marks.{groups_may_hold}
use Rattle.xor_tables.specs.Rows.{rows_decide, rows_may_hold}

-- where a set of the plan passes, over any bytes of the images, each prefix of its slots is hopeful
abbrev pub PassingSetsAreHopeful : Type 0
PassingSetsAreHopeful = (images : List (List ℕ)) (plan : Plan) (rank : ℕ) (geo : Geometry) (count : ℕ) →
    slice_get (sets_of plan) rank ≡ Some geo → passes images plan geo ≡ true → is_hopeful images plan geo.head (take count geo.slots.items) ≡ true

-- on the whole slot list of a set of the plan, the groups may hold exactly where they hold
abbrev pub WholeListsTakeTheLandmarkTest : Type 0
WholeListsTakeTheLandmarkTest = (plan : Plan) (rank : ℕ) (geo : Geometry) →
    slice_get (sets_of plan) rank ≡ Some geo → groups_may_hold plan geo.head geo.slots.items ≡ groups_hold geo plan.end plan.tests plan.groups

-- where the rows in which the images differ decide, of a whole slot list as much is asked of them as by the parity
-- test, over any bytes of the images
abbrev pub RowsDecideLevelFive : Type 0
RowsDecideLevelFive = (images : List (List ℕ)) (plan : Plan) (rank : ℕ) (geo : Geometry) →
    slice_get (sets_of plan) rank ≡ Some geo → rows_decide plan geo.head ≡ true →
    rows_may_hold images plan geo.head geo.slots.items ≡ passes_parity images geo plan.end plan.limits.window plan.limits.badrows
