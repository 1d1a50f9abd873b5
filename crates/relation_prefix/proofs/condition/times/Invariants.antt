use Rattle.std.proofs.Common.{ℕ, ◌≡◌, ◌<◌, ◌≤◌, length, get_or}
use Rattle.gf256.specs.Field.{product}
use Rattle.relation_prefix.proofs.condition.times.Given as goal

abbrev pub invariant-loop-at : goal.invariant-loop-at
invariant-loop-at l = record {
  long : length l.to ≡ 8;
  bytes : (t : ℕ) → get_or l.to t 0 < 256;
  done : (t : ℕ) → t < l.at → get_or l.to t 0 ≡ product l.factor (get_or l.fn.to t 0);
  rest : (t : ℕ) → l.at ≤ t → get_or l.to t 0 ≡ get_or l.fn.to t 0;
}
