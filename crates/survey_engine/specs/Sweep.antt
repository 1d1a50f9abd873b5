-- Sweeps over images in sector order, a block of each at a time.
use Rattle.std.specs.Prelude.{ℕ, ◌≡◌, ◌+◌, ◌-◌, ◌*◌, List, length, map, min, slice_range}
use Rattle.std.specs.List.{range_with_len}
use Rattle.survey_engine.specs.declared.sweep.TheConstants.{BLOCK, BLOCK_BYTES}

-- the bytes of `count` sectors of an image from sector `first` on
abbrev pub sectors_of : ℕ → ℕ → List ℕ → List ℕ
sectors_of first count bytes = slice_range bytes (512 * first) (512 * (first + count))

-- a sweep: its blocks begin at sector `first` and have `count` sectors each, one block an image; it goes on
-- to sector `end`
pub record Swept : Type 0 where
  pub first : ℕ
  pub count : ℕ
  pub end : ℕ
  pub blocks : List (List ℕ)

-- the sector after the blocks, from which on nothing was read
abbrev pub next_of : Swept → ℕ
next_of s = s.first + s.count

-- the sectors of the next blocks: as many as fit, and none past the end
abbrev pub next_count : Swept → ℕ
next_count s = min BLOCK (s.end - next_of s)

-- the sweep went on: its blocks begin where the old ones ended, and have `sectors` sectors each
pub record GoesOn (old new : Swept) (sectors : ℕ) : Type 0 where
  pub first : new.first ≡ next_of old
  pub count : new.count ≡ sectors
  pub end : new.end ≡ old.end
  pub images : length new.blocks ≡ length old.blocks

-- the blocks of `images` images in memory, of `count` sectors each: that of image i begins at byte
-- BLOCK_BYTES * i
unfoldable pub blocks_in : ℕ → ℕ → List ℕ → List (List ℕ)
blocks_in images count bytes = map (λ i. slice_range bytes (BLOCK_BYTES * i) (BLOCK_BYTES * i + 512 * count)) (range_with_len 0 images)
