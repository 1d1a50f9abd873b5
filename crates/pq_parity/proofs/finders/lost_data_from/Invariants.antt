use Rattle.std.proofs.Common.{ℕ, ◌≡◌, ◌<◌, ◌≤◌, false}
use Rattle.pq_parity.specs.Finding.{is_lost_at}
use Rattle.pq_parity.proofs.finders.lost_data_from.Given as goal

abbrev pub invariant-loop-place : goal.invariant-loop-place
invariant-loop-place l = (i : ℕ) → l.start ≤ i → i < l.place → is_lost_at l.cells i ≡ false
