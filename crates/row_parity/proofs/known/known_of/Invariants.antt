use Rattle.std.proofs.Common.{◌≡◌, length}
use Rattle.row_parity.specs.Known.{ArePlaces}
use Rattle.row_parity.proofs.known.known_of.Given as goal

abbrev pub invariant-loop-place : goal.invariant-loop-place
invariant-loop-place l = record { long : length l.known.data_places ≡ 256; are : ArePlaces l.cells l.place l.known }
