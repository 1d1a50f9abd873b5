use Rattle.std.proofs.Common.{ℕ, ◌≡◌, ◌<◌, length, slice_index}
use Rattle.raid_terms.specs.Cells.{part_of}
use Rattle.relation_prefix.specs.Equations.{weight_in_p, weight_in_q}
use Rattle.relation_prefix.proofs.weights.RowWeights.of.Given as goal

abbrev pub invariant-loop-slot : goal.invariant-loop-slot
invariant-loop-slot l = record {
  p_long : length l.weights.p ≡ 24;
  q_long : length l.weights.q ≡ 24;
  p : (k : ℕ) → k < l.slot → slice_index l.weights.p k ≡ weight_in_p (part_of l.head l.row k);
  q : (k : ℕ) → k < l.slot → slice_index l.weights.q k ≡ weight_in_q (part_of l.head l.row k);
}
