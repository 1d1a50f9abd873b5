-- Which sectors of a mirror are torn, and which mirrors pass.
use Rattle.std.specs.Prelude.{ℕ, ◌+◌, ◌-◌, ◌*◌, ◌/◌, ◌%◌, min, Bool, true, false, not, ◌&&◌, if◌then◌else◌, nat_eq, nat_le, nat_lt, List, [], count_by, slice_get, slice_index, slice_index_or}
use Rattle.std.specs.List.{list_all, list_any, range_with_len, sum_by}
use Rattle.std.specs.declared.option.Option.{Option}
use Rattle.std.specs.declared.option.Option.TheVariants.{None, Some}
use Rattle.near_mirror.specs.Copies.{copy_sector, first_chunks, near_chunks, near_rows, near_sectors, slot_of}
use Rattle.near_mirror.specs.Volume.{copy_image}
use Rattle.near_mirror.specs.declared.types.Copying.{Copying}
use Rattle.near_mirror.specs.declared.types.Copying.TheVariants.{Near, Far, Offset}
use Rattle.near_mirror.specs.declared.types.NearHead.{NearHead}
use Rattle.near_mirror.specs.declared.types.NearSet.{NearSet}

-- a byte of an image
abbrev pub image_byte : List (List ℕ) → ℕ → ℕ → ℕ
image_byte images image at = slice_index (slice_index_or images image []) at

-- a sector of one image and a sector of another differ
unfoldable pub sectors_differ : List (List ℕ) → ℕ → ℕ → ℕ → ℕ → Bool
sectors_differ images one sector other place =
    list_any (λ x. not (nat_eq (image_byte images one (512 * sector + x)) (image_byte images other (512 * place + x)))) (range_with_len 0 512)

-- the rows that each copy has to itself: far copies lie in parts of the members after each other, and the others in one part
abbrev pub part_rows : Copying → ℕ → ℕ → ℕ
part_rows Near copies rows = 0
part_rows Far copies rows = rows / copies
part_rows Offset copies rows = 0

-- the member sector at which the part of a copy begins
abbrev pub part_start : NearHead → ℕ → ℕ → ℕ
part_start head end copy = copy * (part_rows head.layout.copying head.layout.copies (near_rows head end) * head.chunk)

-- the rows of a part that are tested: of near copies all whole rows, but for the last one where two cells of it or more are those
-- of a chunk that has no place for all its copies; of the others those that all copies have
abbrev pub rows_tested : Copying → ℕ → ℕ → ℕ → ℕ
rows_tested Near members copies rows = if nat_le ((rows * members) % copies) 1 then rows else rows - 1
rows_tested Far members copies rows = rows / copies
rows_tested Offset members copies rows = (rows / copies) * copies

-- the sectors of a part that are tested lie before this one: in those rows, and within the window
abbrev pub tested_below : NearHead → ℕ → ℕ → ℕ
tested_below head end window = min (rows_tested head.layout.copying head.members head.layout.copies (near_rows head end) * head.chunk) window

-- where a copy of a volume sector lies in its part
abbrev pub copy_depth : NearHead → ℕ → ℕ → ℕ → ℕ
copy_depth head end copy v = copy_sector head end copy v - part_start head end copy

-- two copies of a volume sector are tested where both lie before that
abbrev pub is_tested : NearHead → ℕ → ℕ → ℕ → ℕ → ℕ → Bool
is_tested head end limit first second v = nat_lt (copy_depth head end first v) limit && nat_lt (copy_depth head end second v) limit

-- both slots hold images, and the member sectors there differ
abbrev pub copies_differ : List (List ℕ) → ℕ → Option ℕ → ℕ → Option ℕ → ℕ → Bool
copies_differ images offset (Some one) first (Some other) second = sectors_differ images one (offset + first) other (offset + second)
copies_differ images offset (Some one) first None second = false
copies_differ images offset None first other second = false

-- two copies of a volume sector that are tested, and torn: both are there and differ
abbrev pub is_torn : List (List ℕ) → ℕ → ℕ → NearSet → ℕ → ℕ → ℕ → Bool
is_torn images end limit set first second v =
    is_tested set.head end limit first second v
    && copies_differ images set.head.offset (copy_image set first v) (copy_sector set.head end first v) (copy_image set second v) (copy_sector set.head end second v)

-- how many sectors of the volume are torn between two of their copies
abbrev pub torn_copies : List (List ℕ) → ℕ → ℕ → NearSet → ℕ → ℕ → ℕ
torn_copies images end window set first second =
    count_by (is_torn images end (tested_below set.head end window) set first second) (range_with_len 0 (near_sectors set.head end))

-- how many are, over each two copies; of slots that are not there nothing is
unfoldable pub torn : List (List ℕ) → ℕ → ℕ → NearSet → ℕ
torn images end window set =
    sum_by (λ second. sum_by (λ first. torn_copies images end window set first second) (range_with_len 0 second)) (range_with_len 0 set.head.layout.copies)

-- a slot is there, and empty
abbrev pub is_gone : Option (Option ℕ) → Bool
is_gone None = false
is_gone (Some None) = true
is_gone (Some (Some image)) = false

-- each slot of a chunk is
abbrev pub is_lost : NearSet → ℕ → Bool
is_lost set chunk = list_all (λ copy. is_gone (slice_get set.slots.items (slot_of set.head.layout.copying set.head.members set.head.layout.copies copy chunk))) (range_with_len 0 set.head.layout.copies)

-- one of the first chunks is
unfoldable pub lost_among : ℕ → NearSet → Bool
lost_among chunks set = list_any (is_lost set) (range_with_len 0 chunks)

-- a chunk of the volume is lost
abbrev pub has_lost : ℕ → NearSet → Bool
has_lost end set = lost_among (first_chunks set.head end) set

-- a mirror passes where it has a chunk, no chunk is lost, and no more of the tested copies are torn than may be. So the beginning
-- of a slot list is hopeful where no chunk is of which all slots are in it, and no more are torn of which both slots are
abbrev pub near_passes : List (List ℕ) → ℕ → ℕ → ℕ → NearSet → Bool
near_passes images end window most set = nat_le 1 (near_chunks set.head end) && (not (has_lost end set) && nat_le (torn images end window set) most)

-- the set with these slots, or with no more than these first ones
abbrev pub with_slots : NearHead → List (Option ℕ) → NearSet
with_slots head slots = record { head = head; slots = record { items = slots } }
