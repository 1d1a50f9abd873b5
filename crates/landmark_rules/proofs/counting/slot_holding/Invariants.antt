use Rattle.std.proofs.Common.{◌≡◌, ℕ, ◌<◌, get_or, false, None}
use Rattle.landmark_rules.proofs.Holding.{holds}
use Rattle.landmark_rules.proofs.counting.slot_holding.Given as goal

abbrev pub invariant-loop-slot : goal.invariant-loop-slot
invariant-loop-slot l = (k : ℕ) → k < l.slot → holds l.image (get_or l.slots k None) ≡ false
