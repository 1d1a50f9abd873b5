-- Generated arrays: the members of a set over a generated volume.
use Rattle.std.specs.Prelude.{ℕ, zero, suc, ◌≡◌, ◌+◌, ◌*◌, ◌/◌, ◌%◌, Bool, if◌then◌else◌, List, ◌++◌, map, length, replicate, bit_xor, decimal, unwrap_or}
use Rattle.std.specs.List.{flat_map, range_with_len}
use Rattle.std.specs.Simd.Lanes.{zip2}
use Rattle.std.specs.declared.option.Option.{Option}
use Rattle.std.specs.declared.option.Option.TheVariants.{None, Some}
use Rattle.gf256.specs.Field.{product, power_of}
use Rattle.image_source.specs.Memory.{told_bytes}
use Rattle.landmark_rules.specs.Marks.{slot_holding}
use Rattle.member_regions.specs.Members.{held}
use Rattle.raid_params.specs.Size.{data_blocks, volume_sectors}
use Rattle.raid_params.specs.declared.types.Geometry.{Geometry}
use Rattle.raid_params.specs.declared.types.Head.{Head}
use Rattle.raid_terms.specs.Cells.{stands_in}
use Rattle.raid_terms.specs.Exponent.{exponent_of, item_in}
use Rattle.raid_terms.specs.Role.{item_of, p_of, q_of}
use Rattle.sample_arrays.specs.Marks.{group_blocks, volume_sector}

-- the image sector after the last one of `rows` rows of chunks
abbrev pub end_of : Head → ℕ → ℕ
end_of head rows = head.offset + rows * head.chunk

-- a file of whole sectors up to an end, of which each number is a byte, so that all of it is known
pub record IsFile (end : ℕ) (file : List ℕ × List ℕ) : Type 0 where
  pub long : length file.1 ≡ 512 * end
  pub told : told_bytes file.1 ≡ Some file.1

-- the volume sector of an item that stands at member sector t
abbrev pub row_sector : Head → ℕ → ℕ → ℕ
row_sector head t item = (t / head.chunk * data_blocks head + item) * head.chunk + t % head.chunk

-- the sum of the first n of some sectors, column by column
unfoldable pub sum_of : (ℕ → List ℕ) → ℕ → List ℕ
sum_of sector zero = replicate 512 0
sum_of sector (suc n) = zip2 bit_xor (sum_of sector n) (sector n)

-- P at member sector t: the sum of the data, where the volume has these sectors
unfoldable pub p_sector : (ℕ → List ℕ) → Head → ℕ → List ℕ
p_sector volume head t = sum_of (λ item. volume (row_sector head t item)) (data_blocks head)

-- the weight of an item in Q: 2 to the power of its exponent
abbrev pub weight_of : Head → ℕ → ℕ → ℕ
weight_of head row item = power_of (exponent_of head row (item_of head row item))

-- Q at member sector t: the weighed sum of the data
unfoldable pub q_sector : (ℕ → List ℕ) → Head → ℕ → List ℕ
q_sector volume head t =
    sum_of (λ item. map (product (weight_of head (t / head.chunk) item)) (volume (row_sector head t item))) (data_blocks head)

-- member sector t of a slot: P, Q or the data of its item
abbrev pub member_sector : (ℕ → List ℕ) → Head → ℕ → ℕ → List ℕ
member_sector volume head slot t =
    if stands_in slot (p_of head (t / head.chunk)) then p_sector volume head t
    else if stands_in slot (q_of head (t / head.chunk)) then q_sector volume head t
    else volume (row_sector head t (item_in head (t / head.chunk) slot))

-- the image of a slot: zeros up to the offset, then `rows` rows of its member
unfoldable pub image_of : (ℕ → List ℕ) → Head → ℕ → ℕ → List ℕ
image_of volume head rows slot =
    replicate (512 * head.offset) 0 ++ flat_map (member_sector volume head slot) (range_with_len 0 (rows * head.chunk))

-- the groups of the volume, if it has an XFS
abbrev pub groups_of : Head → ℕ → Bool → Option ℕ
groups_of head rows xfs = if xfs then Some (group_blocks (volume_sectors head (end_of head rows)) (data_blocks head)) else None

-- the volume that is generated from a number
abbrev pub generated : ℕ → Head → ℕ → Bool → ℕ → List ℕ
generated number head rows xfs = volume_sector number (groups_of head rows xfs)

-- the slot that names an image
abbrev pub slot_of : Geometry → ℕ → ℕ
slot_of geo image = unwrap_or (slot_holding image geo.slots.items) 0

-- image j of the array
abbrev pub sampled_image : ℕ → Geometry → ℕ → Bool → ℕ → List ℕ
sampled_image number geo rows xfs image = image_of (generated number geo.head rows xfs) geo.head rows (slot_of geo image)

-- the images of the array, under their numbers as names
unfoldable pub sampled : ℕ → Geometry → ℕ → Bool → List (List ℕ × List ℕ)
sampled number geo rows xfs = map (λ image. (decimal image, sampled_image number geo rows xfs image)) (range_with_len 0 (held geo.slots.items))
