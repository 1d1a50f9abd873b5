use Rattle.std.proofs.Common.{◌≡◌, length}
use Rattle.relation_prefix.specs.Sampled.{AreAllWeights}
use Rattle.relation_prefix.proofs.head_relations.weights_of.Given as goal

abbrev pub invariant-loop-number : goal.invariant-loop-number
invariant-loop-number l = record {
  long : length l.weights.items ≡ l.number;
  weights : AreAllWeights l.test.head l.rows l.number l.weights.items;
}
