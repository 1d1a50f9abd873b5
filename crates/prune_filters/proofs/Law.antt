-- Where a set passes, each prefix of its slots is hopeful.
use Rattle.std.proofs.Common.{◌-◌, min, length, take, ◌&&◌, nat_le}
use Rattle.std.proofs.lemmas.Bool.{and_parts}
use Rattle.raid_params.specs.Size.{redundancy, rows}
use Rattle.raid_params.specs.Slots.{empties, is_distinct}
use Rattle.raid_params.specs.declared.types.Geometry.{Geometry}
use Rattle.raid_terms.specs.Parity.{passes_parity}
use Rattle.landmark_rules.specs.Groups.{groups_hold}
use Rattle.search_plan.specs.declared.plan.Plan.{Plan}
use Rattle.prune_filters.specs.Laws.{PassingSetsAreHopeful, RowsDecideLevelFive, WholeListsTakeTheLandmarkTest}
use Rattle.mark_tables.specs.Marks.{groups_may_hold}
use Rattle.xor_tables.specs.Rows.{rows_may_hold}
use Rattle.xor_tables.proofs.Broken.{rows_at}
use Rattle.xor_tables.proofs.Decided.{rows_decided}
use Rattle.mark_tables.proofs.Landmarks.{AreSlots, groups_at, whole_groups}
use Rattle.xor_tables.proofs.Sets.{IsSetOf, set_at}
use Rattle.mark_tables.proofs.Passing.{true_and}

slots_of : (plan : Plan) (geo : Geometry) → IsSetOf plan geo → AreSlots plan geo
slots_of plan geo set = record {
  long = set.long;
  images = set.images;
  apart = (and_parts (is_distinct geo.slots.items)
      (nat_le (empties geo.slots.items) (min plan.bounds.missing (redundancy geo.head.level)) && nat_le (length plan.lengths.items - (geo.head.members - empties geo.slots.items)) plan.bounds.foreign) set.fit).0;
}

pub hopeful : PassingSetsAreHopeful
hopeful images plan rank geo count here passes =
    let set = set_at plan rank geo here in
    let prefix = take count geo.slots.items in
    let parts = and_parts (nat_le 1 (rows geo.head plan.end))
    (passes_parity images geo plan.end plan.limits.window plan.limits.badrows && groups_hold geo plan.end plan.tests plan.groups) passes in
    let tests = and_parts (passes_parity images geo plan.end plan.limits.window plan.limits.badrows) (groups_hold geo plan.end plan.tests plan.groups) parts.1 in
    true_and (nat_le 1 (rows geo.head plan.end)) (groups_may_hold plan geo.head (take count geo.slots.items) && rows_may_hold images plan geo.head (take count geo.slots.items)) parts.0
    (true_and (groups_may_hold plan geo.head (take count geo.slots.items)) (rows_may_hold images plan geo.head (take count geo.slots.items))
    (groups_at plan geo count (slots_of plan geo set) tests.1)
    (rows_at images plan geo count set tests.0))

pub whole : WholeListsTakeTheLandmarkTest
whole plan rank geo here = whole_groups plan geo (slots_of plan geo (set_at plan rank geo here))

pub decide : RowsDecideLevelFive
decide images plan rank geo here decides = rows_decided images plan geo (set_at plan rank geo here) decides
