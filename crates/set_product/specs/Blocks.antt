-- The product in blocks: the sets of one level and one number of members.
use Rattle.std.specs.Prelude.{ℕ, ◌≡◌, ◌≤◌, ◌==◌, Bool, ◌&&◌, List, length, map, filter}
use Rattle.std.specs.List.{flat_map}
use Rattle.raid_params.specs.declared.limits.TheConstants.{MOST}
use Rattle.raid_params.specs.declared.types.Bounds.{Bounds}
use Rattle.raid_params.specs.declared.types.Geometry.{Geometry}
use Rattle.raid_params.specs.declared.types.Head.{Head}
use Rattle.raid_params.specs.declared.types.Level.{Level}
use Rattle.raid_params.specs.declared.types.Pattern.{Pattern}
use Rattle.raid_params.specs.Places.{pattern_place}
use Rattle.raid_params.specs.Validity.{has_delay, has_members, has_pattern, has_syndrome, is_valid_head}
use Rattle.search_terms.specs.Product.{fits, sets_of as sets_of_head}
use Rattle.search_terms.specs.SlotLists.{all_lists}
use Rattle.slot_math.specs.Space.{lists_of}
use Rattle.slot_math.specs.declared.space.Space.{Space}
use Rattle.search_plan.specs.declared.plan.Plan.{Plan}
use Rattle.set_product.specs.Heads.{space_of}
use Rattle.set_product.specs.Pairs.{pairs}
use Rattle.set_product.specs.declared.block.Block.{Block}

-- the level has arrays of `members` members, and the pattern, and the pattern the delay
abbrev pub suits : Level → ℕ → Pattern × ℕ → Bool
suits level members rotation = (has_members level members && has_pattern level rotation.0) && has_delay rotation.0 rotation.1

-- a head has this pattern with this delay
abbrev pub is_rotation_of : Head → Pattern × ℕ → Bool
is_rotation_of head rotation = pattern_place head.pattern == pattern_place rotation.0 && head.delay == rotation.1

-- the heads of one level and one number of members that make sense, in their order
unfoldable pub heads_with : Bounds → Level → ℕ → List Head
heads_with bounds level members = filter is_valid_head
    (flat_map (λ pattern. flat_map (λ delay. flat_map (λ syndrome. flat_map (λ chunk. map (λ offset.
    record { level = level; members = members; pattern = pattern; delay = delay; syndrome = syndrome; chunk = chunk; offset = offset })
    bounds.offsets.items) bounds.chunks.items) bounds.syndromes.items) bounds.delays.items) bounds.patterns.items)

-- the sets of a plan with such a head, in their order
unfoldable pub sets_with : Plan → Level × ℕ → List Geometry
sets_with plan shape = flat_map (sets_of_head (length plan.lengths.items) plan.bounds) (heads_with plan.bounds shape.0 shape.1)

-- the pairs of a level and a number of members
unfoldable pub shapes : Plan → List (Level × ℕ)
shapes plan = pairs plan.bounds.levels.items plan.bounds.members.items

-- the lists of the space are the slot lists of the plan at one level and one number of members
pub record IsSpaceOf (plan : Plan) (level : Level) (count : ℕ) (space : Space) : Type 0 where
  pub lists : (head : Head) → head.level ≡ level → head.members ≡ count →
      lists_of space ≡ filter (fits (length plan.lengths.items) plan.bounds head) (all_lists (length plan.lengths.items) count)
  pub images : space.images ≤ MOST
  pub members : space.members ≤ MOST

-- the patterns with their delays and the orders of Q of the plan that suit the block, and its slot lists
pub record IsBlock (plan : Plan) (block : Block) : Type 0 where
  pub rotations : block.rotations.items ≡ filter (suits block.level block.members) (pairs plan.bounds.patterns.items plan.bounds.delays.items)
  pub syndromes : block.syndromes.items ≡ filter (has_syndrome block.level) plan.bounds.syndromes.items
  pub space : IsSpaceOf plan block.level block.members block.space
  pub space_is : block.space ≡ space_of plan block.level block.members
