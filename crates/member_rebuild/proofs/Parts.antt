-- Sectors of a member, part by part.
use Rattle.std.proofs.Common.{◌≡◌, ℕ, ◌+◌, ◌-◌, ◌*◌, ◌≤◌, List, length, take, drop, Option, All, ap, ◌∙◌, arith}
use Rattle.std.specs.List.{flat_map, range_with_len}
use Rattle.std.specs.Prelude.{slice_range}
use Rattle.outside.proofs.Reading.{reads_up}
use Rattle.outside.specs.Seen.{Image, OnlyReads, Seen}
use Rattle.raid_params.specs.Size.{area, data_blocks, volume_sectors}
use Rattle.raid_params.specs.declared.types.Geometry.{Geometry}
use Rattle.raid_terms.specs.Volume.{member_sector}
use Rattle.member_regions.proofs.Sets.{reaches_less}
use Rattle.member_regions.specs.Members.{Reaches}
use Rattle.member_regions.specs.Regions.{HoldSlot}
use Rattle.virtual_volume.proofs.Blocks.{region_sectors, sector_long}
use Rattle.virtual_volume.proofs.Ranges.{flat_long}
use Rattle.member_rebuild.specs.Sectors.{sectors_of}

-- the region of a slot holds its sectors
pub part_is : (images : List (List ℕ)) (geo : Geometry) (stride first count slot : ℕ) (sectors part : List ℕ) → HoldSlot images geo stride first count slot sectors →
    length part ≡ 512 * count → part ≡ slice_range sectors (stride * slot + 512 * 0) (stride * slot + 512 * 0 + 512 * count) → part ≡ sectors_of images geo slot first count
unfolding sectors_of
part_is images geo stride first count slot sectors part hold long is =
    let size : stride * slot + 512 * 0 + 512 * count - (stride * slot + 512 * 0) ≡ 512 * count = omega arith in
    let here : first + 0 ≡ first = omega arith in
    region_sectors images geo stride first count slot 0 count sectors part hold (omega arith) long
    (is ∙ ap (λ (n : ℕ). take n (drop (stride * slot + 512 * 0) sectors)) size)
    ∙ ap (λ (t : ℕ). flat_map (member_sector images geo slot) (range_with_len t count)) here

-- the bytes of n sectors
pub sectors_long : (images : List (List ℕ)) (geo : Geometry) (slot first n : ℕ) → length (sectors_of images geo slot first n) ≡ 512 * n
unfolding sectors_of
sectors_long images geo slot first n = omega (arith, flat_long (member_sector images geo slot) 512 first n (λ t. sector_long images geo slot t))

-- the members reach to the end of a block
pub block_held : (attached now : List Image) (offset first count sectors : ℕ) (slots : List (Option ℕ)) → now ≡ attached → first + count ≤ sectors →
    All (Reaches attached (offset + sectors)) slots → All (Reaches now (offset + (first + count))) slots
block_held attached now offset first count sectors slots same few all =
    rw same (reaches_less attached (offset + sectors) (offset + (first + count)) slots all (omega arith))

-- as many sectors as there are data in all rows are those of the volume
pub reads_volume : (old new : Seen) (geo : Geometry) (end n : ℕ) → n ≡ area geo.head end → OnlyReads old new (data_blocks geo.head * n) → OnlyReads old new (volume_sectors geo.head end)
reads_volume old new geo end n all reads =
    let turned : data_blocks geo.head * area geo.head end ≡ volume_sectors geo.head end = grind arith in
    reads_up old new reads (omega (arith, turned, ap (λ (k : ℕ). data_blocks geo.head * k) all))
