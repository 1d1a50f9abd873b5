-- The parameter sets of a plan: which there are, in which order, and which pass.
use Rattle.std.specs.Prelude.{ℕ, Bool, false, ◌&&◌, ◌==◌, nat_le, List, length, position, slice_get}
use Rattle.std.specs.Option.{option_map_or}
use Rattle.std.specs.declared.option.Option.{Option}
use Rattle.raid_params.specs.Size.{rows}
use Rattle.raid_params.specs.declared.types.Geometry.{Geometry}
use Rattle.raid_params.specs.declared.types.Head.{Head}
use Rattle.raid_terms.specs.Parity.{passes_parity}
use Rattle.search_terms.specs.Product.{product}
use Rattle.slot_math.specs.Space.{same_slots}
use Rattle.landmark_rules.specs.Groups.{groups_hold}
use Rattle.raid_params.specs.Places.{level_place, pattern_place, syndrome_place}
use Rattle.search_plan.specs.declared.plan.Plan.{Plan}

-- the parameter sets of a plan whose images share an offset, in their order: a set's rank is its position here
unfoldable pub sets_of : Plan → List Geometry
sets_of plan = product (length plan.lengths.items) plan.bounds

-- how many there are
unfoldable pub total_of : Plan → ℕ
total_of plan = length (sets_of plan)

-- two heads are the same, field by field: a level, a pattern and an order of Q by their place among their kind
abbrev pub is_same_head : Head → Head → Bool
is_same_head a b =
    (level_place a.level == level_place b.level && a.members == b.members)
    && (((pattern_place a.pattern == pattern_place b.pattern && a.delay == b.delay) && syndrome_place a.syndrome == syndrome_place b.syndrome)
    && (a.chunk == b.chunk && a.offset == b.offset))

-- two parameter sets are the same, field by field and slot by slot
abbrev pub is_same_set : Geometry → Geometry → Bool
is_same_set a b = is_same_head a.head b.head && same_slots a.slots.items b.slots.items

-- the rank of a set: its position among those of the plan, or none
abbrev pub rank_of : Plan → Geometry → Option ℕ
rank_of plan geo = position (is_same_set geo) (sets_of plan)

-- a parameter set passes, over the bytes of the images: it has a whole row, and meets the parity test and
-- the landmark test
abbrev pub passes : List (List ℕ) → Plan → Geometry → Bool
passes images plan geo =
    nat_le 1 (rows geo.head plan.end)
    && (passes_parity images geo plan.end plan.limits.window plan.limits.badrows
    && groups_hold geo plan.end plan.tests plan.groups)

-- the set of a rank passes
unfoldable pub passes_at : List (List ℕ) → Plan → ℕ → Bool
passes_at images plan rank = option_map_or (passes images plan) (slice_get (sets_of plan) rank) false
