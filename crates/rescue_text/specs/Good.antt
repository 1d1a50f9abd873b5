-- Which sectors of damaged images were read.
use Rattle.std.specs.Prelude.{ℕ, ◌≡◌, ◌+◌, ◌*◌, ◌<◌, ◌≤◌, Bool, true, false, cond, nat_lt, ◌==◌, ◌&&◌, ◌||◌, not, IsTrue, List, [], ◌∷◌}
use Rattle.std.specs.List.{list_any}
use Rattle.std.specs.declared.option.Option.{Option}
use Rattle.std.specs.declared.option.Option.TheVariants.{None, Some}
use Rattle.rescue_text.specs.declared.block.Block.{Block}
use Rattle.rescue_text.specs.declared.block.Status.{Status}
use Rattle.rescue_text.specs.declared.block.Status.TheVariants.{NonTried, NonTrimmed, NonScraped, Bad, Finished}
use Rattle.rescue_text.specs.declared.section.Section.{Section}

abbrev pub is_finished : Status → Bool
is_finished NonTried = false
is_finished NonTrimmed = false
is_finished NonScraped = false
is_finished Bad = false
is_finished Finished = true

-- a byte lies in a block of status '+'
abbrev pub is_read_in : ℕ → Block → Bool
is_read_in byte block = is_finished block.status && (not (nat_lt byte block.start) && nat_lt byte block.end)

-- a byte lies in one of these
abbrev pub is_read : List Block → ℕ → Bool
is_read blocks byte = list_any (is_read_in byte) blocks

-- so does each byte from one to before another
abbrev pub AreRead : List Block → ℕ → ℕ → Type 0
AreRead blocks from to = (byte : ℕ) → from ≤ byte → byte < to → IsTrue (is_read blocks byte)

-- the section of an image
abbrev pub section_of : List Section → ℕ → Option Section
section_of [] image = None
section_of (section ∷ sections) image = cond (section.image == image) (Some section) (section_of sections image)

abbrev pub IsGoodIn : Option Section → ℕ → Type 0
IsGoodIn None sector = Unit {0}
IsGoodIn (Some section) sector = AreRead section.blocks (sector * 512) (sector * 512 + 512)

-- a sector is good where its image has no section, or each of its bytes was read
abbrev pub IsGood : List Section → ℕ → ℕ → Type 0
IsGood sections image sector = IsGoodIn (section_of sections image) sector

abbrev pub AreGoodIn : Option Section → ℕ → ℕ → Type 0
AreGoodIn None first count = Unit {0}
AreGoodIn (Some section) first count = AreRead section.blocks (first * 512) ((first + count) * 512)

-- so are `count` sectors from one on
abbrev pub AreGood : List Section → ℕ → ℕ → ℕ → Type 0
AreGood sections image first count = AreGoodIn (section_of sections image) first count

-- blocks lie side by side, the first of them at a place
abbrev pub GoOnFrom : ℕ → List Block → Type 0
GoOnFrom place [] = Unit {0}
GoOnFrom place (block ∷ blocks) = (block.start ≡ place) × (place < block.end) × GoOnFrom block.end blocks

abbrev pub AreSideBySide : List Block → Type 0
AreSideBySide [] = Unit {0}
AreSideBySide (block ∷ blocks) = GoOnFrom block.start (block ∷ blocks)

-- the blocks of each section do
abbrev pub AreSections : List Section → Type 0
AreSections [] = Unit {0}
AreSections (section ∷ sections) = AreSideBySide section.blocks × AreSections sections

-- there is a first block, and it begins at this byte or before
abbrev pub begins : List Block → ℕ → Bool
begins [] from = false
begins (block ∷ blocks) from = not (nat_lt from block.start)

-- the first blocks were read, up to one that ends at this byte or after
abbrev pub covers : List Block → ℕ → Bool
covers [] to = false
covers (block ∷ blocks) to = is_finished block.status && (not (nat_lt block.end to) || covers blocks to)
