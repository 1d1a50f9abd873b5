use Rattle.std.proofs.Common.{◌≡◌, ◌+◌, ℕ, List, length}
use Rattle.raid_terms.specs.Parity.{unsound_rows}
use Rattle.parity_scan.specs.declared.image_rows.TheConstants.{ROW}
use Rattle.parity_scan.specs.Equations.{AreKnown}
use Rattle.parity_scan.specs.ImageRows.{HoldsSet}
use Rattle.parity_scan.specs.ChunkRows.{IsChunkRow}
use Rattle.parity_scan.proofs.image_rows.rows_left_after.Given as goal

abbrev pub invariant-loop-t : goal.invariant-loop-t
invariant-loop-t l = record {
  row : IsChunkRow l.geo l.sums.images l.row.at l.row;
  known : AreKnown l.regions l.known;
  room : length l.room ≡ ROW;
  counted : (images : List (List ℕ)) → HoldsSet images l.run l.regions l.geo → unsound_rows images l.geo l.t + l.rest ≡ unsound_rows images l.geo l.from + l.left;
}
