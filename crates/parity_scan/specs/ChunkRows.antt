-- Chunk rows of a set.
use Rattle.std.specs.Prelude.{ℕ, ◌≡◌, ◌<◌, true, IfSome, All}
use Rattle.raid_params.specs.declared.types.Geometry.{Geometry}
use Rattle.raid_terms.specs.Cells.{row_cells}
use Rattle.parity_scan.specs.Equations.{DecideRow}
use Rattle.parity_scan.specs.ImageSums.{AddsAllBut, IsWhole}
use Rattle.parity_scan.specs.declared.left_out.ChunkRow.{ChunkRow}

-- the cells of a chunk row of a set, what P's equation leaves out there, where that is known, and the factors of the one
-- equation that decides its rows, where they are
pub record IsChunkRow (geo : Geometry) (n at : ℕ) (row : ChunkRow) : Type 0 where
  pub place : row.at ≡ at
  pub cells : row.cells.items ≡ row_cells geo at
  pub within : row.within ≡ true → All (λ slot. IfSome slot (λ image. image < n)) geo.slots.items
  pub whole : IfSome row.out (λ out. IsWhole row.cells.items geo.slots.items n)
  pub but : IfSome row.out (AddsAllBut row.cells.items geo.slots.items n)
  pub factors : IfSome row.factors (DecideRow row.cells.items geo.slots.items)
