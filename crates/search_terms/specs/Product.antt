-- The product: every parameter set of the bounds, in its order.
use Rattle.std.specs.Prelude.{ℕ, ◌-◌, min, Bool, nat_le, ◌&&◌, List, map, filter}
use Rattle.std.specs.List.{flat_map}
use Rattle.std.specs.declared.option.Option.{Option}
use Rattle.raid_params.specs.declared.types.Bounds.{Bounds}
use Rattle.raid_params.specs.declared.types.Geometry.{Geometry}
use Rattle.raid_params.specs.declared.types.Head.{Head}
use Rattle.raid_params.specs.Size.{redundancy}
use Rattle.raid_params.specs.Validity.{is_valid_head}
use Rattle.search_terms.specs.SlotLists.{all_lists}
use Rattle.raid_params.specs.Slots.{is_distinct, empties}

-- the heads that make sense among all combinations of the values, in nested order
abbrev pub heads : Bounds → List Head
heads bounds = filter is_valid_head
    (flat_map (λ level. flat_map (λ members. flat_map (λ pattern. flat_map (λ delay. flat_map (λ syndrome. flat_map (λ chunk. map (λ offset.
    record { level = level; members = members; pattern = pattern; delay = delay; syndrome = syndrome; chunk = chunk; offset = offset })
    bounds.offsets.items) bounds.chunks.items) bounds.syndromes.items) bounds.delays.items) bounds.patterns.items) bounds.members.items) bounds.levels.items)

-- no image stands twice; at most as many places are empty as may be missing and as the level survives;
-- and at most as many images stand in no place as may be foreign
abbrev pub fits : ℕ → Bounds → Head → List (Option ℕ) → Bool
fits images bounds head slots =
    is_distinct slots
    && (nat_le (empties slots) (min bounds.missing (redundancy head.level))
    && nat_le (images - (head.members - empties slots)) bounds.foreign)

-- the parameter sets of a head over `images` images
abbrev pub sets_of : ℕ → Bounds → Head → List Geometry
sets_of images bounds head =
    map (λ slots. record { head = head; slots = record { items = slots } })
    (filter (fits images bounds head) (all_lists images head.members))

-- the product: a parameter set's rank is its position here
abbrev pub product : ℕ → Bounds → List Geometry
product images bounds = flat_map (sets_of images bounds) (heads bounds)
