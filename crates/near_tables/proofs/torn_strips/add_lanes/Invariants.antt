use Rattle.std.proofs.Common.{◌≡◌, ℕ, ◌<◌, ◌≤◌, [], length, get_or}
use Rattle.near_tables.specs.Counting.{AddsPair}
use Rattle.near_tables.proofs.torn_strips.add_lanes.Given as goal

abbrev pub invariant-loop-pair : goal.invariant-loop-pair
invariant-loop-pair l = record {
  done : (i : ℕ) → i < l.pair → AddsPair l.strips.many l.strips.head l.strips.limit l.at l.count l.strips.lanes.items i (get_or l.fn.counts i []) (get_or l.counts i []);
  rest : (i : ℕ) → l.pair ≤ i → get_or l.counts i [] ≡ get_or l.fn.counts i [];
  long : length l.counts ≡ 16;
}
