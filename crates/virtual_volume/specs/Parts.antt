-- The volume in parts: row by row, item by item, chunk by chunk.
use Rattle.std.specs.Prelude.{ℕ, ◌+◌, ◌*◌, List}
use Rattle.std.specs.List.{flat_map, range_with_len}
use Rattle.raid_params.specs.Size.{data_blocks}
use Rattle.raid_params.specs.declared.types.Geometry.{Geometry}
use Rattle.raid_terms.specs.Role.{item_of}
use Rattle.raid_terms.specs.Volume.{member_sector}

-- the chunk of a slot in a row
unfoldable pub chunk_of : List (List ℕ) → Geometry → ℕ → ℕ → List ℕ
chunk_of images geo row slot = flat_map (λ at. member_sector images geo slot (row * geo.head.chunk + at)) (range_with_len 0 geo.head.chunk)

-- the first items of a row
unfoldable pub items_of : List (List ℕ) → Geometry → ℕ → ℕ → List ℕ
items_of images geo row n = flat_map (λ item. chunk_of images geo row (item_of geo.head row item)) (range_with_len 0 n)

-- n rows of the volume from a row on
unfoldable pub rows_of : List (List ℕ) → Geometry → ℕ → ℕ → List ℕ
rows_of images geo first n = flat_map (λ row. items_of images geo row (data_blocks geo.head)) (range_with_len first n)
