use Rattle.std.proofs.Common.{ℕ, ◌≡◌, ◌+◌, ◌<◌, ◌≤◌, false, length, get_or}
use Rattle.relation_prefix.proofs.refusals.Refusals.count.Given as goal

abbrev pub invariant-loop-slot : goal.invariant-loop-slot
invariant-loop-slot l = record {
  long : length l.self.lost ≡ 24;
  whole : l.self.whole ≡ l.fn.self.whole + 1;
  more : (k : ℕ) → get_or l.self.lost k 0 ≤ get_or l.fn.self.lost k 0 + 1;
  same : (k : ℕ) → get_or l.weights.p k 0 ≡ l.lost.p → get_or l.weights.q k 0 ≡ l.lost.q → get_or l.self.lost k 0 ≡ get_or l.fn.self.lost k 0;
  rest : (k : ℕ) → l.slot ≤ k → get_or l.self.lost k 0 ≡ get_or l.fn.self.lost k 0;
  all : l.stands ≡ false → (l.most < l.self.whole) × ((k : ℕ) → l.first ≤ k → k < l.slot → l.most < get_or l.self.lost k 0);
}
