-- The objects of a listing's lines.
use Rattle.std.specs.Prelude.{ℕ, ◌==◌, if◌then◌else◌, List, [], ◌∷◌, Option, Some, None, codes, map}
use Rattle.serde_json.specs.Data.{Data, Items, array, member, no_members, null, number, object, string, unsigned}
use Rattle.serde_json.specs.View.{items_of}
use Rattle.serde_json.specs.Written.{compact_text}
use Rattle.raid_params.specs.declared.types.Head.{Head}
use Rattle.raid_params.specs.declared.types.Level.{Level}
use Rattle.raid_params.specs.declared.types.Level.TheVariants.{Raid0, Raid5, Raid6}
use Rattle.raid_params.specs.declared.wide.Wide.{Wide}
use Rattle.raid_layouts.specs.Names.{name_of}
use Rattle.value_text.specs.SetText.{rotation_name}
use Rattle.value_text.specs.Spelling.{line, syndrome_name}

-- the number of a level
abbrev pub level_number : Level → ℕ
level_number Raid0 = 0
level_number Raid5 = 5
level_number Raid6 = 6

-- a slot: the number of its image, or null where it is empty
abbrev pub slot_data : Option ℕ → Data
slot_data (Some image) = number (unsigned image)
slot_data None = null

abbrev pub slots_data : List (Option ℕ) → Items
slots_data slots = items_of (map slot_data slots)

-- the offset that is common to all images, or the base of each
abbrev pub base_data : ℕ → Data
base_data base = number (unsigned base)

abbrev pub offset_data : ℕ → List ℕ → Data
offset_data offset [] = base_data offset
offset_data offset (base ∷ bases) = array (items_of (map base_data (base ∷ bases)))

-- the name of a layout, where parity stays for one row
abbrev pub layout_name : Head → Option (List ℕ)
layout_name head = if head.delay == 1 then name_of head.level head.pattern head.syndrome else None

-- the name of a layout, or null where it has none
abbrev pub name_data : Option (List ℕ) → Data
name_data (Some name) = string name
name_data None = null

-- the object of a parameter set and its rank, its keys in the order of their bytes
abbrev pub set_data : ℕ → Head → List ℕ → List (Option ℕ) → Data
set_data rank head bases slots = object (
    member (codes "chunk") (number (unsigned head.chunk)) (member (codes "level") (number (unsigned (level_number head.level)))
    (member (codes "name") (name_data (layout_name head)) (member (codes "offset") (offset_data head.offset bases)
    (member (codes "pattern") (string (rotation_name head.pattern head.delay)) (member (codes "rank") (number (unsigned rank))
    (member (codes "slots") (array (slots_data slots)) (member (codes "syndrome") (string (syndrome_name head.syndrome)) no_members))))))))

-- the object of where the next page begins, of `total` ranks
abbrev pub next_data : ℕ → ℕ → Data
next_data next total = object (member (codes "next") (number (unsigned next)) (member (codes "total") (number (unsigned total)) no_members))

-- the line of a parameter set
unfoldable pub set_object : ℕ → Wide → List ℕ
set_object rank set = line (compact_text (set_data rank set.geo.head set.bases.items set.geo.slots.items))

-- the line of where the next page begins
unfoldable pub next_object : ℕ → ℕ → List ℕ
next_object next total = line (compact_text (next_data next total))
