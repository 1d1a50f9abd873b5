use Rattle.std.proofs.Common.{◌≡◌, map, take}
use Rattle.parity_scan.specs.Tallies.{unbroken_tally}
use Rattle.parity_scan.proofs.many_sets.first_tallies.Given as goal

abbrev pub invariant-loop-geo : goal.invariant-loop-geo
invariant-loop-geo l = l.tallies.items ≡ map (unbroken_tally l.scope) (take l.geo-index l.sets)
