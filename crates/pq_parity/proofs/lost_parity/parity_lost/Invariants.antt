use Rattle.std.proofs.Common.{◌≡◌, take}
use Rattle.pq_parity.specs.DataThere.{parity_lost}
use Rattle.pq_parity.proofs.lost_parity.parity_lost.Given as goal

abbrev pub invariant-loop-place : goal.invariant-loop-place
invariant-loop-place l = l.by_data.items ≡ parity_lost (take l.place l.cells)
