-- Which parameters make sense, and the first rule that a parameter set breaks.
use Rattle.std.specs.Prelude.{ℕ, ◌+◌, ◌^◌, Bool, true, false, nat_eq, nat_le, ◌&&◌, ◌||◌, not, if◌then◌else◌, List, length, take, slice_index_or}
use Rattle.std.specs.List.{find, list_any, range_with_len}
use Rattle.std.specs.Option.{is_none, option_map_or, option_and_then}
use Rattle.std.specs.declared.option.Option.{Option}
use Rattle.std.specs.declared.option.Option.TheVariants.{None, Some}
use Rattle.raid_params.specs.Size.{redundancy, rows}
use Rattle.raid_params.specs.Slots.{empties, stands}
use Rattle.raid_params.specs.declared.limits.TheConstants.{LONGEST_DELAY, MOST, MOST_CHUNKS}
use Rattle.raid_params.specs.declared.types.GeoFault.{GeoFault}
use Rattle.raid_params.specs.declared.types.GeoFault.TheVariants.{Members, Pattern as BadPattern, Syndrome as BadSyndrome, Chunk, Image, Repeat, Missing, NoRow, Delay}
use Rattle.raid_params.specs.declared.types.Geometry.{Geometry}
use Rattle.raid_params.specs.declared.types.Head.{Head}
use Rattle.raid_params.specs.declared.types.Level.{Level}
use Rattle.raid_params.specs.declared.types.Level.TheVariants.{Raid0, Raid5, Raid6}
use Rattle.raid_params.specs.declared.types.Pattern.{Pattern}
use Rattle.raid_params.specs.declared.types.Pattern.TheVariants.{Plain, La, Ra, Ls, Rs, ParityFirst, ParityLast, ParityFirst6}
use Rattle.raid_params.specs.declared.types.Syndrome.{Syndrome}
use Rattle.raid_params.specs.declared.types.Syndrome.TheVariants.{NoQ}

-- the fewest members of a level
abbrev pub fewest : Level → ℕ
fewest level = redundancy level + 2

-- the level has the pattern: level 0 has Plain alone, level 5 six others, and level 6 all but Plain
abbrev pub has_pattern : Level → Pattern → Bool
has_pattern Raid0 Plain = true
has_pattern Raid0 _ = false
has_pattern Raid5 La = true
has_pattern Raid5 Ra = true
has_pattern Raid5 Ls = true
has_pattern Raid5 Rs = true
has_pattern Raid5 ParityFirst = true
has_pattern Raid5 ParityLast = true
has_pattern Raid5 _ = false
has_pattern Raid6 Plain = false
has_pattern Raid6 _ = true

-- the level has this order of Q: level 6 has each but NoQ, and the other levels have NoQ alone
abbrev pub has_syndrome : Level → Syndrome → Bool
has_syndrome Raid6 NoQ = false
has_syndrome Raid6 _ = true
has_syndrome _ NoQ = true
has_syndrome _ _ = false

-- the parity of the pattern moves from slot to slot
abbrev pub moves : Pattern → Bool
moves Plain = false
moves ParityFirst = false
moves ParityLast = false
moves ParityFirst6 = false
moves _ = true

-- the parity of the pattern may stay for so many rows: for one, or where it moves for up to the longest delay
abbrev pub has_delay : Pattern → ℕ → Bool
has_delay pattern delay = nat_eq delay 1 || (moves pattern && (nat_le 1 delay && nat_le delay LONGEST_DELAY))

-- a power of two from 1 to the largest chunk
unfoldable pub is_chunk : ℕ → Bool
is_chunk chunk = list_any (λ k. nat_eq chunk (2 ^ k)) (range_with_len 0 MOST_CHUNKS)

-- the level has arrays of `members` members
abbrev pub has_members : Level → ℕ → Bool
has_members level members = nat_le (fewest level) members && nat_le members MOST

-- the members, the pattern, the order of Q and the chunk suit the level, and the delay the pattern
abbrev pub is_valid_head : Head → Bool
is_valid_head head =
    has_members head.level head.members
    && (has_pattern head.level head.pattern && (has_syndrome head.level head.syndrome && (is_chunk head.chunk && has_delay head.pattern head.delay)))

-- the slot at this place holds an image that is not below `images`
abbrev pub is_absent : ℕ → List (Option ℕ) → ℕ → Bool
is_absent images slots at = option_map_or (λ i. nat_le images i) (slice_index_or slots at None) false

-- the first image in a slot that is not below `images`
abbrev pub first_absent : ℕ → List (Option ℕ) → Option ℕ
first_absent images slots = option_and_then (λ at. slice_index_or slots at None) (find (is_absent images slots) (range_with_len 0 (length slots)))

-- the slot at this place holds an image that a slot before it holds too
abbrev pub is_met_again : List (Option ℕ) → ℕ → Bool
is_met_again slots at = option_map_or (λ i. stands i (take at slots)) (slice_index_or slots at None) false

-- the first image that is met again
abbrev pub first_repeat : List (Option ℕ) → Option ℕ
first_repeat slots = option_and_then (λ at. slice_index_or slots at None) (find (is_met_again slots) (range_with_len 0 (length slots)))

-- the first rule on the slots that is broken: each holds an image below `images` or none, no image
-- stands twice, and no more slots are empty than the level survives
abbrev pub slots_fault : Level → ℕ → List (Option ℕ) → Option ℕ → Option ℕ → Option GeoFault
slots_fault level images slots (Some i) repeated = Some (Image i)
slots_fault level images slots None (Some i) = Some (Repeat i)
slots_fault level images slots None None = if nat_le (empties slots) (redundancy level) then None else Some (Missing (empties slots))

-- the first rule on the shape that is broken, over `images` images
abbrev pub shape_fault : Geometry → ℕ → Option GeoFault
shape_fault geo images =
    if not (has_members geo.head.level (length geo.slots.items) && nat_eq geo.head.members (length geo.slots.items)) then Some (Members geo.head.members)
    else if not (has_pattern geo.head.level geo.head.pattern) then Some (BadPattern geo.head.pattern)
    else if not (has_syndrome geo.head.level geo.head.syndrome) then Some (BadSyndrome geo.head.syndrome)
    else if not (is_chunk geo.head.chunk) then Some (Chunk geo.head.chunk)
    else slots_fault geo.head.level images geo.slots.items (first_absent images geo.slots.items) (first_repeat geo.slots.items)

-- the set has a sensible shape over `images` images: no rule on the shape is broken, and the delay suits the pattern
abbrev pub is_shaped : Geometry → ℕ → Bool
is_shaped geo images = is_none (shape_fault geo images) && has_delay geo.head.pattern geo.head.delay

-- after the rules on the shape: the set has a whole row before the image sector `end`
abbrev pub row_fault : Geometry → ℕ → Option GeoFault → Option GeoFault
row_fault geo end (Some fault) = Some fault
row_fault geo end None = if nat_eq (rows geo.head end) 0 then Some (NoRow geo.head.offset) else None

-- the first broken rule but for that on the delay
abbrev pub early_fault : Geometry → ℕ → ℕ → Option GeoFault
early_fault geo images end = row_fault geo end (shape_fault geo images)

-- after all others: the delay suits the pattern
abbrev pub delay_fault : Head → Option GeoFault → Option GeoFault
delay_fault head (Some fault) = Some fault
delay_fault head None = if has_delay head.pattern head.delay then None else Some (Delay head.delay)

-- the first broken rule
abbrev pub first_fault : Geometry → ℕ → ℕ → Option GeoFault
first_fault geo images end = delay_fault geo.head (early_fault geo images end)
