-- Neighbouring rows that are read together, image by image.
use Rattle.std.specs.Prelude.{ℕ, ◌≡◌, ◌+◌, ◌*◌, ◌<◌, nat_eq, if◌then◌else◌, min, max, List, [], length, map, slice_index, slice_index_or, slice_range}
use Rattle.std.specs.List.{flat_map, range_with_len}
use Rattle.relation_lines.specs.Runs.{Row}
use Rattle.relation_lines.specs.Tables.{table_of}
use Rattle.relation_job.specs.Relating.{row_at}
use Rattle.relation_job.specs.Sampling.{row_number}
use Rattle.relation_job.specs.declared.sampling.Part.{Part}
use Rattle.relation_job.specs.declared.sampling.Sampling.{Sampling}

-- how many rows are read together: one, unless there is no sector between them
unfoldable pub rows_at_once : Sampling → ℕ
rows_at_once sampling = if nat_eq sampling.step 1 then max 1 (min sampling.rows 256) else 1

-- neighbouring sectors of an image, from its sector in a row on
abbrev pub row_sectors : List (List ℕ) → List ℕ → ℕ → ℕ → ℕ → List ℕ
row_sectors images offsets row rows image = slice_range (slice_index_or images image []) (512 * (row + slice_index offsets image)) (512 * (row + slice_index offsets image) + 512 * rows)

-- the sectors of neighbouring rows, image by image
abbrev pub block_bytes : List (List ℕ) → List ℕ → ℕ → ℕ → List ℕ
block_bytes images offsets row rows = flat_map (row_sectors images offsets row rows) (range_with_len 0 (length images))

-- a block has the sectors of so many neighbouring rows of the images, which have them all
pub record IsBlock (images : List (List ℕ)) (offsets : List ℕ) (row rows : ℕ) (block : List ℕ) : Type 0 where
  pub bytes : block ≡ block_bytes images offsets row rows
  pub each : (image : ℕ) → image < length images → length (row_sectors images offsets row rows image) ≡ 512 * rows

-- the sector of an image in one of so many rows of a block
abbrev pub block_sector : List ℕ → ℕ → ℕ → ℕ → List ℕ
block_sector block rows place image = slice_range block (512 * (rows * image + place)) (512 * (rows * image + place) + 512)

-- one of so many rows of a block of images
abbrev pub block_row : List ℕ → ℕ → ℕ → ℕ → List ℕ
block_row block images rows place = flat_map (block_sector block rows place) (range_with_len 0 images)

-- a row of a part whose block this is, with its table
abbrev pub block_row_at : List ℕ → ℕ → Part → ℕ → Row
block_row_at block images part place = record { sector = row_number part.sampling (part.first + place); table = table_of images (block_row block images part.rows place) }

-- the first rows of the part
abbrev pub block_rows : List ℕ → ℕ → Part → ℕ → List Row
block_rows block images part count = map (block_row_at block images part) (range_with_len 0 count)

-- the rows of a part, as they are
abbrev pub part_rows : List (List ℕ) → List ℕ → Part → List Row
part_rows images offsets part = map (λ place. row_at images offsets (row_number part.sampling (part.first + place))) (range_with_len 0 part.rows)
