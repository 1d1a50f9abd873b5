-- The members' sectors in memory: a region for each member, one after the other, each of `stride` bytes.
use Rattle.std.specs.Prelude.{ℕ, ◌≡◌, ◌+◌, ◌*◌, ◌<◌, ◌≤◌, false, List, slice_index, slice_index_or}
use Rattle.std.specs.declared.option.Option.{Option}
use Rattle.std.specs.declared.option.Option.TheVariants.{None}
use Rattle.std.specs.Option.{is_none}
use Rattle.raid_params.specs.declared.types.Geometry.{Geometry}
use Rattle.raid_terms.specs.Parity.{member_byte}
use Rattle.raid_terms.specs.Volume.{byte_in}

-- regions as contracts see them: for how many members, the bytes of a region, and the bytes of all
pub record Room : Type 0 where
  pub members : ℕ
  pub stride : ℕ
  pub bytes : List ℕ

-- there is room for `sectors` sectors of each of `members` members
pub record IsRoomFor (members sectors : ℕ) (room : Room) : Type 0 where
  pub many : members ≤ room.members
  pub long : 512 * sectors ≤ room.stride

-- the bytes alone may have changed
pub record KeepsRoom (old new : Room) : Type 0 where
  pub members : new.members ≡ old.members
  pub stride : new.stride ≡ old.stride

-- of the first n slots, the regions of those with an image hold `bytes` bytes of their members from sector `first` on, where
-- the members begin at image sector `offset`
abbrev pub HoldRead : List (List ℕ) → List (Option ℕ) → ℕ → ℕ → ℕ → ℕ → ℕ → List ℕ → Type 0
HoldRead images slots offset stride first bytes n sectors =
    (i y : ℕ) → i < n → y < bytes → is_none (slice_index_or slots i None) ≡ false →
    slice_index sectors (stride * i + y) ≡ member_byte images offset first y (slice_index_or slots i None)

-- the region of a slot holds `count` of its member sectors from sector `first` on, those of its image or the lost ones
abbrev pub HoldSlot : List (List ℕ) → Geometry → ℕ → ℕ → ℕ → ℕ → List ℕ → Type 0
HoldSlot images geo stride first count slot sectors =
    (j x : ℕ) → j < count → x < 512 →
    slice_index sectors (stride * slot + (512 * j + x)) ≡ byte_in images geo (first + j) slot x (slice_index_or geo.slots.items slot None)
