use Rattle.std.proofs.Common.{ℕ, ◌≡◌, ◌+◌, ◌-◌, ◌<◌, ◌≤◌}
use Rattle.rescue_map.specs.Damaged.{known_slot}
use Rattle.rescue_map.proofs.damaged.known_front.Given as goal

abbrev pub invariant-loop-known : goal.invariant-loop-known
invariant-loop-known l = record {
  some : 1 ≤ l.known;
  less : l.known ≤ l.beyond;
  within : l.beyond ≤ l.most;
  front : (t : ℕ) → l.first ≤ t → t < l.first + l.known → known_slot l.rescue l.set t l.held ≡ l.held;
  past : ((t : ℕ) → l.first ≤ t → t < l.first + l.beyond → known_slot l.rescue l.set t l.held ≡ l.held) → ⊥;
}

abbrev pub decreases-loop-known : goal.decreases-loop-known
decreases-loop-known l = l.beyond - l.known
