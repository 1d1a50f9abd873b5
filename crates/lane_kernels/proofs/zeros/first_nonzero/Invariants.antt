use Rattle.std.proofs.Common.{◌≡◌, ℕ, ◌<◌, ◌≤◌, ◌+◌, ◌-◌, slice_index, length}
use Rattle.lane_kernels.proofs.zeros.first_nonzero.Given as goal

abbrev pub invariant-loop-at : goal.invariant-loop-at
invariant-loop-at l = record { zero : (k : ℕ) → k < l.at → slice_index l.a k ≡ 0; within : l.at ≤ length l.a }

abbrev pub decreases-loop-at : goal.decreases-loop-at
decreases-loop-at l = length l.initial.a + 1 - l.at

abbrev pub invariant-loop-at-2 : goal.invariant-loop-at-2
invariant-loop-at-2 l = record { zero : (k : ℕ) → k < l.at → slice_index l.a k ≡ 0; within : l.at ≤ length l.a }

abbrev pub decreases-loop-at-2 : goal.decreases-loop-at-2
decreases-loop-at-2 l = length l.initial.a - l.at
