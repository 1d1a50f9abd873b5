use Rattle.std.proofs.Common.{◌≡◌, drop}
use Rattle.reraid_nbd_cli.specs.Words.{maps_from}
use Rattle.reraid_nbd_cli.proofs.asking.maps_place.Given as goal

abbrev pub invariant-loop-place : goal.invariant-loop-place
invariant-loop-place l = maps_from 0 l.words ≡ maps_from l.place (drop l.place l.words)
