use Rattle.raid_params.specs.declared.limits.TheConstants.{MOST}
use Rattle.std.proofs.Common.{◌≡◌, ◌≤◌, ◌<◌, length, ℕ, ◌+◌, ◌-◌, get_or}
use Rattle.slot_math.specs.Ways.{ways}
use Rattle.slot_math.proofs.counts.ways_of.Given as goal

abbrev pub invariant-loop-start : goal.invariant-loop-start
invariant-loop-start l = record {
  room : length l.row ≡ MOST + 2;
  done : (k : ℕ) → k < l.start → get_or l.row k 0 ≡ ways l.low l.high (l.free + k + 0 - l.left) 0 (l.empty + k);
}

abbrev pub invariant-loop-m : goal.invariant-loop-m
invariant-loop-m l = record {
  room : length l.row ≡ MOST + 2;
  done : (k : ℕ) → k + l.m ≤ l.left → get_or l.row k 0 ≡ ways l.low l.high (l.free + k + l.m - l.left) l.m (l.empty + k);
}

abbrev pub invariant-loop-k : goal.invariant-loop-k
invariant-loop-k l = record {
  room : length l.row ≡ MOST + 2;
  done : (k : ℕ) → k < l.k → get_or l.row k 0 ≡ ways l.low l.high (l.free + k + (l.m + 1) - l.left) (l.m + 1) (l.empty + k);
  rest : (k : ℕ) → l.k ≤ k → k + l.m ≤ l.left → get_or l.row k 0 ≡ ways l.low l.high (l.free + k + l.m - l.left) l.m (l.empty + k);
}
