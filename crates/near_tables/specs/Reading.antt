-- Why a table is not built, and what strips of images hold.
use Rattle.std.specs.Prelude.{ℕ, ◌≡◌, ◌+◌, ◌-◌, ◌*◌, ◌^◌, ◌<◌, ◌≤◌, min, Bool, not, nat_eq, IsTrue, All, List, [], length, count_by, slice_index_or}
use Rattle.std.specs.List.{list_any, range_with_len, sum_by}
use Rattle.outside.specs.Causes.{Rose}
use Rattle.outside.specs.Seen.{Image, Seen}
use Rattle.raid_params.specs.declared.limits.TheConstants.{MOST}
use Rattle.member_regions.specs.ImageSums.{room_byte}
use Rattle.member_regions.specs.Regions.{IsRoomFor, Room}
use Rattle.member_regions.specs.declared.regions.TheConstants.{BLOCK}
use Rattle.near_mirror.specs.Heads.{is_valid_near}
use Rattle.near_mirror.specs.declared.types.Copying.{Copying}
use Rattle.near_mirror.specs.declared.types.Copying.TheVariants.{Near, Far, Offset}
use Rattle.near_mirror.specs.declared.types.NearHead.{NearHead}
use Rattle.near_tables.specs.Tables.{lane_depth, lane_sector}
use Rattle.near_tables.specs.Torn.{image_byte, part_start, tested_below}
use Rattle.near_tables.specs.declared.lane_reading.Strips.{Strips}
use Rattle.near_tables.specs.declared.torn_table.TableFault.{TableFault}
use Rattle.near_tables.specs.declared.torn_table.TableFault.TheVariants.{ReadFault, Memory}

-- the images failed, or memory ran out and nothing was read
abbrev pub EndsTable : Seen → Seen → TableFault → Type 0
EndsTable old new ReadFault = Rose old.faults new.faults
EndsTable old new Memory = new ≡ old

-- sectors number j of the region of one image and of that of another differ
unfoldable pub regions_differ : Room → ℕ → Room → ℕ → ℕ → Bool
regions_differ first one second other j =
    list_any (λ x. not (nat_eq (room_byte first (512 * j + x) one) (room_byte second (512 * j + x) other))) (range_with_len 0 512)

-- how many of the first ones do
abbrev pub strip_torn : Room → Room → ℕ → ℕ → ℕ → ℕ
strip_torn first second count one other = count_by (regions_differ first one second other) (range_with_len 0 count)

-- the first sectors of the regions are those of the images from this sector on
abbrev pub HoldStrip : List (List ℕ) → ℕ → ℕ → ℕ → Room → Type 0
HoldStrip bytes images sector count room = (i y : ℕ) → i < images → y < 512 * count → room_byte room y i ≡ image_byte bytes i (512 * sector + y)

-- in how many parts of the members copies lie
abbrev pub parts_of : Copying → ℕ → ℕ
parts_of Near copies = 1
parts_of Far copies = copies
parts_of Offset copies = 1

-- how many sectors of an image are read where those of each part before this one are
abbrev pub sectors_read : NearHead → ℕ → ℕ
sectors_read head limit = parts_of head.layout.copying head.layout.copies * limit

-- the sectors that are tested lie before this image sector
abbrev pub ReachesTo : NearHead → ℕ → ℕ → ℕ → Type 0
ReachesTo head end limit to = (lane : ℕ) → lane < head.layout.copies → head.offset + part_start head end lane + limit ≤ to

-- the images have the sectors that are tested
pub record MayRead (images : List Image) (strips : Strips) : Type 0 where
  pub head : IsTrue (is_valid_near strips.head)
  pub few : strips.many ≤ MOST
  pub attached : length images ≡ strips.many
  pub reach : All (λ image. ReachesTo strips.head strips.end strips.limit image.sectors) images
  pub near : ReachesTo strips.head strips.end strips.limit (2 ^ 55 - 1)

-- the regions of a lane
abbrev pub lane_room : List Room → ℕ → Room
lane_room rooms lane = slice_index_or rooms lane (record { members = 0; stride = 0; bytes = [] })

-- there is room for a block of each image in each lane
pub record HasRoom (strips : Strips) : Type 0 where
  pub lanes : length strips.lanes.items ≡ strips.head.layout.copies
  pub blocks : (lane : ℕ) → lane < strips.head.layout.copies → IsRoomFor strips.many BLOCK (lane_room strips.lanes.items lane)

-- what strips are read for stays
pub record KeepsStrips (old new : Strips) : Type 0 where
  pub many : new.many ≡ old.many
  pub head : new.head ≡ old.head
  pub end : new.end ≡ old.end
  pub limit : new.limit ≡ old.limit

-- how many of `count` sectors of a lane from number `at` on are tested
abbrev pub rest_of : NearHead → ℕ → ℕ → ℕ → ℕ → ℕ
rest_of head limit at count lane = min count (limit - lane_depth head lane at)

-- how many of all lanes
abbrev pub rests_of : NearHead → ℕ → ℕ → ℕ → ℕ → ℕ
rests_of head limit at count lanes = sum_by (rest_of head limit at count) (range_with_len 0 lanes)

-- the regions of a lane hold those of the images
abbrev pub HoldsLane : List (List ℕ) → ℕ → NearHead → ℕ → ℕ → ℕ → ℕ → List Room → ℕ → Type 0
HoldsLane bytes images head end limit at count rooms lane =
    HoldStrip bytes images (head.offset + lane_sector head end lane at) (rest_of head limit at count lane) (lane_room rooms lane)

-- how many sectors of an image are read for what is tested
abbrev pub read_of : NearHead → ℕ → ℕ → ℕ
read_of head end window = sectors_read head (tested_below head end window)
