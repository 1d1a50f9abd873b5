-- Where the groups of a plan hold in a set, they may hold with each prefix of its slots.
use Rattle.std.proofs.Common.{◌≡◌, ℕ, ◌+◌, ◌≤◌, ◌++◌, length, take, drop, arith, ap, ap₂, sym, subst, ◌∙◌, true, ◌&&◌, nat_le}
use Rattle.std.proofs.lemmas.Bool.{and_parts, le-leb, leb-true}
use Rattle.std.proofs.lemmas.List.{take-append-drop}
use Rattle.std.specs.Option.{is_some}
use Rattle.raid_params.specs.Slots.{is_distinct}
use Rattle.raid_params.specs.declared.types.Geometry.{Geometry}
use Rattle.slot_math.specs.Ways.{AllImages}
use Rattle.landmark_rules.specs.Groups.{bounds_of, fits_asked, fits_of, groups_hold, held_origin, holds_at, misfits_of, origins_for}
use Rattle.landmark_rules.specs.declared.marks.Group.{Group}
use Rattle.search_plan.specs.declared.plan.Plan.{Plan}
use Rattle.mark_tables.specs.Marks.{counted_in, fits_at, groups_may_hold, may_hold, may_hold_at, misfits_at, reserves}
use Rattle.mark_tables.proofs.Placing.{counted_placed, fits_placed, misfits_placed}
use Rattle.mark_tables.proofs.Reserves.{prefix_less, prefix_more, whole_reserves}
use Rattle.mark_tables.proofs.Passing.{all_more, all_same, any_more, any_same, found_if, true_and}
use Rattle.slot_math.proofs.Placed.{placed}

-- slots of different images, as many as members
pub record AreSlots (plan : Plan) (geo : Geometry) : Type 0 where
  pub long : length geo.slots.items ≡ geo.head.members
  pub images : AllImages (length plan.lengths.items) geo.slots.items
  pub apart : is_distinct geo.slots.items ≡ true

whole : (geo : Geometry) (count : ℕ) → take count geo.slots.items ++ drop count geo.slots.items ≡ geo.slots.items
whole geo count = take-append-drop count geo.slots.items

group_at : (plan : Plan) (geo : Geometry) (count : ℕ) (group : Group) (origin : ℕ) → AreSlots plan geo →
    holds_at geo plan.end plan.tests group origin ≡ true → may_hold_at plan geo.head (take count geo.slots.items) group origin ≡ true
group_at plan geo count group origin are holds =
    let prefix = take count geo.slots.items in
    let later = drop count geo.slots.items in
    let fit = fits_at geo.head plan.end group.marks origin in
    let misfit = misfits_at geo.head plan.end group.marks origin in
    let parts = and_parts (nat_le (misfits_of geo plan.end group.marks origin) (bounds_of plan.tests group).misfits)
    (nat_le (fits_asked plan.tests group) (fits_of geo plan.end group.marks origin)) holds in
    let few : misfits_of geo plan.end group.marks origin ≤ (bounds_of plan.tests group).misfits = leb-true (misfits_of geo plan.end group.marks origin) (bounds_of plan.tests group).misfits parts.0 in
    let enough : fits_asked plan.tests group ≤ fits_of geo plan.end group.marks origin = leb-true (fits_asked plan.tests group) (fits_of geo plan.end group.marks origin) parts.1 in
    let split : geo.slots.items ≡ take count geo.slots.items ++ drop count geo.slots.items = sym (whole geo count) in
    let all : AllImages (length plan.lengths.items) (take count geo.slots.items ++ drop count geo.slots.items) = subst (AllImages (length plan.lengths.items)) split are.images in
    let apart : is_distinct (take count geo.slots.items ++ drop count geo.slots.items) ≡ true = ap is_distinct (whole geo count) ∙ are.apart in
    let long : length (take count geo.slots.items ++ drop count geo.slots.items) ≡ geo.head.members = ap length (whole geo count) ∙ are.long in
    let m : counted_in (misfits_at geo.head plan.end group.marks origin) (take count geo.slots.items) ≤ placed ◌+◌ (misfits_at geo.head plan.end group.marks origin) 0 (take count geo.slots.items ++ drop count geo.slots.items)
    = prefix_less (misfits_at geo.head plan.end group.marks origin) prefix later in
    let m_is : placed ◌+◌ (misfits_at geo.head plan.end group.marks origin) 0 (take count geo.slots.items ++ drop count geo.slots.items) ≡ misfits_of geo plan.end group.marks origin
    = ap (placed ◌+◌ (misfits_at geo.head plan.end group.marks origin) 0) (whole geo count) ∙ misfits_placed geo plan.end group.marks origin are.apart in
    let f : placed ◌+◌ (fits_at geo.head plan.end group.marks origin) 0 (take count geo.slots.items ++ drop count geo.slots.items)
    ≤ counted_in (fits_at geo.head plan.end group.marks origin) (take count geo.slots.items)
    + reserves (fits_at geo.head plan.end group.marks origin) (length plan.lengths.items) geo.head.members (take count geo.slots.items)
    = prefix_more (fits_at geo.head plan.end group.marks origin) (length plan.lengths.items) geo.head.members prefix later (omega arith) all apart in
    let f_is : placed ◌+◌ (fits_at geo.head plan.end group.marks origin) 0 (take count geo.slots.items ++ drop count geo.slots.items) ≡ fits_of geo plan.end group.marks origin
    = ap (placed ◌+◌ (fits_at geo.head plan.end group.marks origin) 0) (whole geo count) ∙ fits_placed geo plan.end group.marks origin are.apart in
    true_and _ _
    (le-leb (counted_in (misfits_at geo.head plan.end group.marks origin) (take count geo.slots.items)) (bounds_of plan.tests group).misfits (omega arith))
    (le-leb (fits_asked plan.tests group)
    (counted_in (fits_at geo.head plan.end group.marks origin) (take count geo.slots.items)
    + reserves (fits_at geo.head plan.end group.marks origin) (length plan.lengths.items) geo.head.members (take count geo.slots.items)) (omega arith))

pub groups_at : (plan : Plan) (geo : Geometry) (count : ℕ) → AreSlots plan geo → groups_hold geo plan.end plan.tests plan.groups ≡ true →
    groups_may_hold plan geo.head (take count geo.slots.items) ≡ true
unfolding groups_hold groups_may_hold may_hold held_origin
groups_at plan geo count are hold =
    all_more (λ group. is_some (held_origin geo plan.end plan.tests group)) (may_hold plan geo.head (take count geo.slots.items)) plan.groups
    (λ group e. any_more (holds_at geo plan.end plan.tests group) (may_hold_at plan geo.head (take count geo.slots.items) group) (origins_for plan.tests group.kind)
    (λ origin holds. group_at plan geo count group origin are holds)
    (sym (found_if (holds_at geo plan.end plan.tests group) (origins_for plan.tests group.kind)) ∙ e)) hold

-- on the whole slot list as much is asked
whole_at : (plan : Plan) (geo : Geometry) (group : Group) (origin : ℕ) → AreSlots plan geo →
    may_hold_at plan geo.head geo.slots.items group origin ≡ holds_at geo plan.end plan.tests group origin
whole_at plan geo group origin are =
    let m : counted_in (misfits_at geo.head plan.end group.marks origin) geo.slots.items ≡ misfits_of geo plan.end group.marks origin
    = counted_placed (misfits_at geo.head plan.end group.marks origin) geo.slots.items ∙ misfits_placed geo plan.end group.marks origin are.apart in
    let f : counted_in (fits_at geo.head plan.end group.marks origin) geo.slots.items ≡ fits_of geo plan.end group.marks origin
    = counted_placed (fits_at geo.head plan.end group.marks origin) geo.slots.items ∙ fits_placed geo plan.end group.marks origin are.apart in
    let r : reserves (fits_at geo.head plan.end group.marks origin) (length plan.lengths.items) geo.head.members geo.slots.items ≡ 0
    = whole_reserves (fits_at geo.head plan.end group.marks origin) (length plan.lengths.items) geo.head.members geo.slots.items are.long in
    let s : counted_in (fits_at geo.head plan.end group.marks origin) geo.slots.items
    + reserves (fits_at geo.head plan.end group.marks origin) (length plan.lengths.items) geo.head.members geo.slots.items ≡ fits_of geo plan.end group.marks origin = omega arith in
    ap₂ (λ (a b : ℕ). nat_le a (bounds_of plan.tests group).misfits && nat_le (fits_asked plan.tests group) b) m s

pub whole_groups : (plan : Plan) (geo : Geometry) → AreSlots plan geo → groups_may_hold plan geo.head geo.slots.items ≡ groups_hold geo plan.end plan.tests plan.groups
unfolding groups_hold groups_may_hold may_hold held_origin
whole_groups plan geo are =
    all_same (may_hold plan geo.head geo.slots.items) (λ group. is_some (held_origin geo plan.end plan.tests group)) plan.groups
    (λ group. any_same (may_hold_at plan geo.head geo.slots.items group) (holds_at geo plan.end plan.tests group) (origins_for plan.tests group.kind)
    (λ origin. whole_at plan geo group origin are)
    ∙ sym (found_if (holds_at geo plan.end plan.tests group) (origins_for plan.tests group.kind)))
