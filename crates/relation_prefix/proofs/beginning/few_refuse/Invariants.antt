use Rattle.std.proofs.Common.{◌≡◌, ◌≤◌, count_by, take}
use Rattle.relation_prefix.specs.Sampled.{refuses}
use Rattle.relation_prefix.proofs.beginning.few_refuse.Given as goal

abbrev pub invariant-loop-number : goal.invariant-loop-number
invariant-loop-number l = record {
  count : l.refused ≡ count_by (refuses l.test l.slots l.lost) (take l.number l.rows);
  few : l.refused ≤ l.test.badrows;
}
