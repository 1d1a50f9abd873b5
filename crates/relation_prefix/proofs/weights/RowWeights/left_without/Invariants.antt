use Rattle.std.proofs.Common.{ℕ, ◌≡◌, ◌<◌, ◌≤◌, length}
use Rattle.raid_params.specs.declared.types.Head.{Head}
use Rattle.raid_terms.specs.Cells.{part_of}
use Rattle.relation_prefix.specs.Equations.{left_without}
use Rattle.relation_prefix.specs.Sampled.{AreRowWeights}
use Rattle.relation_prefix.specs.Ties.{AreWeightsOf}
use Rattle.relation_prefix.proofs.weights.RowWeights.left_without.Given as goal

abbrev pub invariant-loop-slot : goal.invariant-loop-slot
invariant-loop-slot l = record {
  long : length l.left ≡ 24;
  done : (head : Head) (row : ℕ) → AreRowWeights head row l.self → l.lost < head.members → l.count ≤ head.members → AreWeightsOf head row (left_without (part_of head row l.lost)) l.slot l.left;
}
