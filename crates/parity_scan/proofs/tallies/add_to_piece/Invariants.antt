use Rattle.std.proofs.Common.{◌≡◌, ◌+◌, ◌<◌, ◌≤◌, ℕ, length, get_or}
use Rattle.raid_params.specs.declared.types.Geometry.{Geometry}
use Rattle.parity_scan.specs.Equations.{AreKnown}
use Rattle.parity_scan.specs.ImageRows.{AddsRun}
use Rattle.parity_scan.specs.declared.image_rows.TheConstants.{ROW}
use Rattle.parity_scan.specs.declared.tally.Tally.{Tally}
use Rattle.parity_scan.proofs.tallies.add_to_piece.Given as goal

abbrev pub invariant-loop-i : goal.invariant-loop-i
invariant-loop-i l = record {
  long : length l.piece ≡ length l.initial.piece;
  done : (i : ℕ) (d : Tally) (e : Geometry) → i < l.i → AddsRun l.scanned.scope.now (get_or l.scanned.sets.now (l.start + i) e) l.run l.regions (get_or l.initial.piece i d) (get_or l.piece i d);
  known : AreKnown l.regions l.known;
  room : length l.room ≡ ROW;
  rest : (i : ℕ) (d : Tally) → l.i ≤ i → get_or l.piece i d ≡ get_or l.initial.piece i d;
}
