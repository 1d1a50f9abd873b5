-- Sectors of all members that are kept in memory, with the lost data among them found: what a reading asks of them, and leaves.
use Rattle.std.specs.Prelude.{ℕ, ◌≡◌, ◌+◌, ◌*◌, ◌^◌, ◌<◌, ◌≤◌, max, Bool, nat_le, ◌&&◌, List, length, All, IfSome}
use Rattle.outside.specs.Attached.{told_all}
use Rattle.outside.specs.Seen.{Image, OnlyReads, Seen}
use Rattle.raid_params.specs.declared.types.Geometry.{Geometry}
use Rattle.raid_params.specs.declared.types.Head.{Head}
use Rattle.raid_terms.specs.Address.{home_sector}
use Rattle.member_regions.specs.Members.{IsTestable, Reaches}
use Rattle.member_regions.specs.Regions.{IsRoomFor, KeepsRoom, Room}
use Rattle.member_regions.specs.declared.regions.TheConstants.{BLOCK}
use Rattle.lost_members.specs.Needs.{HoldData}
use Rattle.virtual_volume.specs.Served.{IsServed}
use Rattle.volume_device.specs.declared.kept.Kept.{Kept}

-- of the `count` member sectors from `first` on, the regions hold the data of each member, of images or lost, where the images are known
pub record IsKept (attached : List Image) (geo : Geometry) (room : Room) (first count : ℕ) : Type 0 where
  pub fits : 512 * count ≤ room.stride
  pub near : first + count < 2 ^ 55
  pub holds : IfSome (told_all attached) (λ images. HoldData images geo room.stride first count room.bytes)

-- the n member sectors from `at` on are among the `count` from `first` on
abbrev pub is_among : ℕ → ℕ → ℕ → ℕ → Bool
is_among first count at n = nat_le first at && nat_le (at + n) (first + count)

-- the n sectors of the volume from `at` on lie on member sectors among the `count` from `first` on
abbrev pub LieAmong : Head → ℕ → ℕ → ℕ → ℕ → Type 0
LieAmong head first count at n = (v : ℕ) → at ≤ v → v < at + n → (first ≤ home_sector head v) × (home_sector head v < first + count)

-- the most sectors of each member that are kept: a chunk, or 256 where chunks are smaller
abbrev pub most_kept : Head → ℕ
most_kept head = max BLOCK head.chunk

-- new memory for a set: there is room for the most sectors of each member that are kept, and none is
pub record IsNew (geo : Geometry) (memory : Kept) : Type 0 where
  pub room : IsRoomFor (length geo.slots.items) (most_kept geo.head) memory.regions
  pub none : (memory.first ≡ 0) × (memory.count ≡ 0)

-- a volume can be read up to an image sector: its set breaks no rule over the attached images, the memory has room for `sectors`
-- sectors of each member, and what it keeps is theirs
pub record CanRead (geo : Geometry) (end sectors : ℕ) (attached : List Image) (memory : Kept) : Type 0 where
  pub set : IsServed geo end attached
  pub room : IsRoomFor (length geo.slots.items) sectors memory.regions
  pub kept : IsKept attached geo memory.regions memory.first memory.count

-- `count` sectors of each member from `first` on can be kept: the set has a sensible shape, the images of its members reach behind
-- the last of them, before image sector 2^55, the memory has room for so many, and what it keeps is theirs
pub record CanKeep (geo : Geometry) (first count : ℕ) (attached : List Image) (memory : Kept) : Type 0 where
  pub set : IsTestable geo
  pub held : All (Reaches attached (geo.head.offset + (first + count))) geo.slots.items
  pub near : geo.head.offset + (first + count) < 2 ^ 55
  pub room : IsRoomFor (length geo.slots.items) count memory.regions
  pub kept : IsKept attached geo memory.regions memory.first memory.count

-- at most so many sectors were read, nothing but the counts of the images changed, and the memory, in regions as many and as long as
-- before, keeps what is the members'
pub record HasRead (geo : Geometry) (sectors : ℕ) (old new : Seen) (before after : Kept) : Type 0 where
  pub reads : OnlyReads old new sectors
  pub room : KeepsRoom before.regions after.regions
  pub kept : IsKept old.attached geo after.regions after.first after.count
