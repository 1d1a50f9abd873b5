-- The texts of a parameter set.
use Rattle.std.specs.Prelude.{ℕ, ◌≡◌, ◌^◌, ◌≤◌, ◌<◌, ◌==◌, if◌then◌else◌, refl, List, [], ◌∷◌, ◌++◌, length, map, decimal, All, IfSome}
use Rattle.raid_params.specs.declared.limits.TheConstants.{MOST}
use Rattle.raid_params.specs.declared.types.Geometry.{Geometry}
use Rattle.raid_params.specs.declared.types.Pattern.{Pattern}
use Rattle.raid_params.specs.declared.wide.Wide.{Wide}
use Rattle.value_text.specs.Spelling.{level_name, pattern_name, syndrome_name, slot_name, commas, pluses, colons, named, line}

-- the offset that is common to all images, or the base of each, from image 0 on
abbrev pub offset_name : ℕ → List ℕ → List ℕ
offset_name offset [] = decimal offset
offset_name offset (base ∷ bases) = pluses (map decimal (base ∷ bases))

-- a pattern, and behind a star for how many rows its parity stays, where that is not one: PATTERN or PATTERN*DELAY
abbrev pub rotation_name : Pattern → ℕ → List ℕ
rotation_name pattern delay = if delay == 1 then pattern_name pattern else pattern_name pattern ++ 42 ∷ decimal delay

-- LEVEL:PATTERN:SYNDROME:CHUNK:OFFSET:SLOTS
abbrev pub word_with : Geometry → List ℕ → List ℕ
word_with geo bases = colons
    (level_name geo.head.level
    ∷ rotation_name geo.head.pattern geo.head.delay
    ∷ syndrome_name geo.head.syndrome
    ∷ decimal geo.head.chunk
    ∷ offset_name geo.head.offset bases
    ∷ commas (map slot_name geo.slots.items)
    ∷ [])

abbrev pub set_word : Wide → List ℕ
set_word set = word_with set.geo set.bases.items

-- from 2 to 24 bases in range
pub record AreBases (bases : List ℕ) : Type 0 where
  pub some : 2 ≤ length bases
  pub most : length bases ≤ MOST
  pub small : All (λ base. base < 2 ^ 54) bases

-- an offset in range, or bases
abbrev pub HasOffset : ℕ → List ℕ → Type 0
HasOffset offset [] = offset < 2 ^ 55
HasOffset offset (base ∷ bases) = AreBases (base ∷ bases)

-- the set is one that a set word stands for: as many members as slots, from 1 to 24, each slot an
-- image from 0 to 23 or none, and numbers of sectors in range. Whether it makes sense is another matter
pub record HasWord (set : Wide) : Type 0 where
  pub some : 1 ≤ length set.geo.slots.items
  pub most : length set.geo.slots.items ≤ MOST
  pub members : set.geo.head.members ≡ length set.geo.slots.items
  pub images : All (λ slot. IfSome slot (λ image. image < MOST)) set.geo.slots.items
  pub some_delay : 1 ≤ set.geo.head.delay
  pub delay : set.geo.head.delay < 2 ^ 32
  pub chunk : set.geo.head.chunk < 2 ^ 32
  pub offset : HasOffset set.geo.head.offset set.bases.items

-- RANK SETWORD
abbrev pub set_line : ℕ → Wide → List ℕ
set_line rank set = line (named (decimal rank) (set_word set))

-- the set whose offset is common to all images
abbrev pub common : Geometry → Wide
common geo = record { geo = geo; bases = record { items = [] }; is_greatest = refl }
