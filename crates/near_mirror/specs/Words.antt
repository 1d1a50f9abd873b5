-- The texts of the parameter set of a mirror.
use Rattle.std.specs.Prelude.{ℕ, ◌≡◌, ◌^◌, ◌≤◌, ◌<◌, IsTrue, List, [], ◌∷◌, ◌++◌, length, map, codes, decimal, All, IfSome}
use Rattle.raid_params.specs.declared.limits.TheConstants.{MOST}
use Rattle.near_mirror.specs.Heads.{are_copies}
use Rattle.near_mirror.specs.declared.types.CopyLayout.{CopyLayout}
use Rattle.near_mirror.specs.declared.types.Copying.{Copying}
use Rattle.near_mirror.specs.declared.types.Copying.TheVariants.{Near, Far, Offset}
use Rattle.near_mirror.specs.declared.types.NearSet.{NearSet}
use Rattle.value_text.specs.Spelling.{slot_name, commas, colons, named, line}

-- how copies lie
abbrev pub copying_name : Copying → List ℕ
copying_name Near = codes "near"
copying_name Far = codes "far"
copying_name Offset = codes "offset"

-- near2, near3, near4, far2, far3, far4, offset2, offset3 or offset4
abbrev pub layout_name : CopyLayout → List ℕ
layout_name layout = copying_name layout.copying ++ decimal layout.copies

-- LAYOUT:CHUNK:OFFSET:SLOTS
abbrev pub near_word : NearSet → List ℕ
near_word set = colons (layout_name set.head.layout ∷ decimal set.head.chunk ∷ decimal set.head.offset ∷ commas (map slot_name set.slots.items) ∷ [])

-- the set is one that a near word stands for: from 2 to 4 copies, as many members as slots, from 1 to 24, each slot an
-- image from 0 to 23 or none, and numbers of sectors in range. Whether it makes sense is another matter
pub record HasNearWord (set : NearSet) : Type 0 where
  pub copies : IsTrue (are_copies set.head.layout.copies)
  pub some : 1 ≤ length set.slots.items
  pub most : length set.slots.items ≤ MOST
  pub members : set.head.members ≡ length set.slots.items
  pub images : All (λ slot. IfSome slot (λ image. image < MOST)) set.slots.items
  pub chunk : set.head.chunk < 2 ^ 32
  pub offset : set.head.offset < 2 ^ 55

-- RANK NEARWORD
abbrev pub near_line : ℕ → NearSet → List ℕ
near_line rank set = line (named (decimal rank) (near_word set))
