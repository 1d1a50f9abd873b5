-- The product of a search for mirrors: every parameter set of what is asked, in its order.
use Rattle.std.specs.Prelude.{ℕ, ◌+◌, ◌-◌, min, Bool, false, nat_le, ◌&&◌, if◌then◌else◌, List, [], ◌∷◌, length, map, filter, slice_get}
use Rattle.std.specs.List.{flat_map}
use Rattle.std.specs.Option.{option_map_or}
use Rattle.std.specs.declared.option.Option.{Option}
use Rattle.raid_params.specs.Slots.{is_distinct, empties}
use Rattle.search_terms.specs.SlotLists.{all_lists}
use Rattle.slot_math.specs.Space.{lists_of}
use Rattle.slot_math.specs.declared.space.Space.{Space}
use Rattle.near_mirror.specs.declared.types.CopyLayout.{CopyLayout}
use Rattle.near_mirror.specs.declared.types.NearHead.{NearHead}
use Rattle.near_mirror.specs.declared.types.NearSet.{NearSet}
use Rattle.near_tables.specs.Torn.{near_passes, with_slots}
use Rattle.near_search.specs.declared.ask.NearAsk.{NearAsk}
use Rattle.near_search.specs.declared.heads.NearSets.{NearSets}

-- a head
abbrev pub head_of : CopyLayout → ℕ → ℕ → ℕ → NearHead
head_of layout members chunk offset = record { members = members; chunk = chunk; offset = offset; layout = layout }

-- the heads of a layout
unfoldable pub layout_heads : NearAsk → CopyLayout → List NearHead
layout_heads ask layout = flat_map (λ members. flat_map (λ chunk. map (head_of layout members chunk) ask.offsets.items) ask.chunks.items) ask.members.items

-- the heads: all combinations of the values, in nested order
unfoldable pub near_heads : NearAsk → List NearHead
near_heads ask = flat_map (layout_heads ask) ask.layouts.items

-- there are as many members as copies at least; no image stands twice; at most as many places are empty as may be missing; and at most as many images stand in no place as
-- may be foreign
abbrev pub near_fits : ℕ → NearAsk → NearHead → List (Option ℕ) → Bool
near_fits images ask head slots =
    nat_le head.layout.copies head.members && (is_distinct slots && (nat_le (empties slots) ask.missing && nat_le (images - (head.members - empties slots)) ask.foreign))

-- the parameter sets of a head over `images` images
abbrev pub near_sets_of : ℕ → NearAsk → NearHead → List NearSet
near_sets_of images ask head = map (with_slots head) (filter (near_fits images ask head) (all_lists images head.members))

-- the product: a parameter set's rank is its position here
unfoldable pub near_product : ℕ → NearAsk → List NearSet
near_product images ask = flat_map (near_sets_of images ask) (near_heads ask)

-- how many there are
abbrev pub near_total : ℕ → NearAsk → ℕ
near_total images ask = length (near_product images ask)

-- the set at a rank passes, over the bytes of the images
abbrev pub passes_at : List (List ℕ) → ℕ → NearAsk → ℕ → Bool
passes_at bytes images ask rank = option_map_or (near_passes bytes ask.end ask.window ask.badrows) (slice_get (near_product images ask) rank) false

-- the slot lists of a head. There are none where it has more copies than members, or where, with no place empty, more images are
-- in no slot than may be foreign. Else they have at most as many empty places as may be missing, and as leave a place to each image that has to be in
-- a slot
unfoldable pub near_space : ℕ → NearAsk → NearHead → Space
near_space images ask head =
    if nat_le head.layout.copies head.members && nat_le images (ask.foreign + head.members)
    then record { images = images; members = head.members; low = 0; high = min ask.missing (ask.foreign + head.members - images) }
    else record { images = images; members = head.members; low = 1; high = 0 }

-- how many sets a head has
abbrev pub set_count : ℕ → NearAsk → NearHead → ℕ
set_count images ask head = length (lists_of (near_space images ask head))

-- these heads with their slot lists, where the first set of the first one has this rank
unfoldable pub numbered : ℕ → NearAsk → ℕ → List NearHead → List NearSets
numbered images ask first [] = []
numbered images ask first (head ∷ heads) =
    record { head = head; space = near_space images ask head; first = first; count = set_count images ask head }
    ∷ numbered images ask (first + set_count images ask head) heads

-- the heads in the order of the product, each with its slot lists and its first rank
abbrev pub near_numbered : ℕ → NearAsk → List NearSets
near_numbered images ask = numbered images ask 0 (near_heads ask)
