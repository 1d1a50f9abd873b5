use Rattle.std.proofs.Common.{ℕ, ◌≡◌, ◌<◌, ◌≤◌, length, get_or, bit_xor}
use Rattle.gf256.specs.Field.{product}
use Rattle.relation_prefix.proofs.joint.weighed_lists.Given as goal

abbrev pub invariant-loop-t : goal.invariant-loop-t
invariant-loop-t l = record {
  long : length l.sums ≡ 8;
  bytes : (k : ℕ) → get_or l.sums k 0 < 256;
  done : (k : ℕ) → k < l.t → get_or l.sums k 0 ≡ bit_xor (product l.f (get_or l.one k 0)) (product l.g (get_or l.other k 0));
  rest : (k : ℕ) → l.t ≤ k → get_or l.sums k 0 ≡ 0;
}
