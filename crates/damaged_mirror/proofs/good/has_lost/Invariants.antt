use Rattle.std.proofs.Common.{ℕ, ◌≡◌, ◌+◌, ◌-◌, ◌<◌, ◌≤◌, false}
use Rattle.damaged_mirror.specs.Damaged.{is_lost}
use Rattle.damaged_mirror.proofs.good.has_lost.Given as goal

abbrev pub invariant-loop-at : goal.invariant-loop-at
invariant-loop-at l = record {
  within : l.at ≤ l.count;
  none : (v : ℕ) → l.first ≤ v → v < l.first + l.at → is_lost l.damage.rescue.now l.damage.set.now l.damage.end v ≡ false;
}

abbrev pub decreases-loop-at : goal.decreases-loop-at
decreases-loop-at l = l.count - l.at
