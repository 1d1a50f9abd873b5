use Rattle.std.proofs.Common.{ℕ, ◌≡◌, ◌+◌, ◌-◌, ◌<◌, ◌≤◌, Some}
use Rattle.damaged_mirror.specs.Damaged.{good_copy}
use Rattle.damaged_mirror.proofs.good.taken_run.Given as goal

abbrev pub invariant-loop-count : goal.invariant-loop-count
invariant-loop-count l = record {
  some : 1 ≤ l.count;
  within : l.count ≤ l.most;
  same : (i : ℕ) → i < l.count → good_copy l.damage.rescue.now l.damage.set.now l.damage.end (l.first + i) ≡ Some l.copy;
}

abbrev pub decreases-loop-count : goal.decreases-loop-count
decreases-loop-count l = l.most - l.count
