-- Which sectors of an array whose images are damaged are known.
use Rattle.std.specs.Prelude.{ℕ, ◌≡◌, ◌+◌, ◌*◌, ◌<◌, ◌≤◌, ◌^◌, Bool, true, IsTrue, nat_lt, ◌&&◌, if◌then◌else◌, get_or, List, length, map, slice_index_or}
use Rattle.std.specs.List.{list_all, range_with_len}
use Rattle.std.specs.Option.{is_none}
use Rattle.std.specs.declared.option.Option.{Option}
use Rattle.std.specs.declared.option.Option.TheVariants.{None, Some}
use Rattle.std.specs.Prelude.{All}
use Rattle.outside.specs.Seen.{Image}
use Rattle.member_regions.specs.Members.{IsTestable, Reaches}
use Rattle.raid_params.specs.Size.{redundancy}
use Rattle.raid_params.specs.Slots.{empties}
use Rattle.raid_params.specs.Validity.{is_valid_head}
use Rattle.raid_params.specs.declared.types.Geometry.{Geometry}
use Rattle.raid_params.specs.declared.wide.Wide.{Wide}
use Rattle.raid_terms.specs.Address.{home_sector, home_slot}
use Rattle.rescue_text.specs.Good.{is_read, section_of}
use Rattle.rescue_text.specs.declared.section.Section.{Section}

-- each byte of a sector was read; of an image without a section all are
abbrev pub is_good_in : Option Section → ℕ → Bool
is_good_in None sector = true
is_good_in (Some section) sector = list_all (is_read section.blocks) (range_with_len (sector * 512) 512)

abbrev pub is_good : List Section → ℕ → ℕ → Bool
is_good sections image sector = is_good_in (section_of sections image) sector

-- the image sector of member sector t: past the image's own base, or past the common offset
abbrev pub image_sector : Wide → ℕ → ℕ → ℕ
image_sector set image t = get_or set.bases.items image set.geo.head.offset + t

-- what a slot holds where member sector t of it is known: the image, whose sector there is good
abbrev pub known_slot : List Section → Wide → ℕ → Option ℕ → Option ℕ
known_slot sections set t None = None
known_slot sections set t (Some image) = if is_good sections image (image_sector set image t) then Some image else None

-- the set at member sector t: slots whose cell there is not known are empty
unfoldable pub damaged : List Section → Wide → ℕ → Geometry
damaged sections set t = record { head = set.geo.head; slots = record { items = map (known_slot sections set t) set.geo.slots.items } }

-- the set at the row in which a volume sector lies
abbrev pub damaged_at : List Section → Wide → ℕ → Geometry
damaged_at sections set v = damaged sections set (home_sector set.geo.head v)

-- the home of a volume sector is not known
abbrev pub is_unknown : List Section → Wide → ℕ → Bool
is_unknown sections set v = is_none (slice_index_or (damaged_at sections set v).slots.items (home_slot set.geo.head v) None)

-- more cells of its row are not known than the level survives
abbrev pub is_beyond : List Section → Wide → ℕ → Bool
is_beyond sections set v = nat_lt (redundancy set.geo.head.level) (empties (damaged_at sections set v).slots.items)

-- a volume sector is lost: neither its home is known, nor enough of its row
unfoldable pub is_lost : List Section → Wide → ℕ → Bool
is_lost sections set v = is_unknown sections set v && is_beyond sections set v

-- a set whose volume may be damaged: its head makes sense, and it has as many members as slots
pub record IsDamaged (set : Wide) (end : ℕ) : Type 0 where
  pub head : IsTrue (is_valid_head set.geo.head)
  pub members : set.geo.head.members ≡ length set.geo.slots.items
  pub near : end < 2 ^ 55
  pub few : empties set.geo.slots.items ≤ redundancy set.geo.head.level

-- a set whose damaged volume can be mended: it is of a sensible shape, and its members end before image sector 2^55
pub record IsMendable (set : Wide) (end : ℕ) : Type 0 where
  pub shape : IsTestable set.geo
  pub near : end < 2 ^ 55

-- a set whose damaged volume can be mended, and its members read: each slot is empty, or holds an attached image that reaches to the end
pub record IsReadable (set : Wide) (end : ℕ) (attached : List Image) : Type 0 where
  pub mendable : IsMendable set end
  pub held : All (Reaches attached end) set.geo.slots.items

-- at member sector t each slot that holds an image is known
abbrev pub AreAllGood : List Section → Wide → ℕ → Type 0
AreAllGood sections set t = map (known_slot sections set t) set.geo.slots.items ≡ set.geo.slots.items
