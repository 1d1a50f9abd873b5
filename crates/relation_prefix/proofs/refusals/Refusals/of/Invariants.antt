use Rattle.std.proofs.Common.{ℕ, ◌≤◌, get_or, take}
use Rattle.relation_prefix.specs.Joint.{AreRefusals}
use Rattle.relation_prefix.proofs.refusals.Refusals.of.Given as goal

abbrev pub invariant-loop-number : goal.invariant-loop-number
invariant-loop-number l = record {
  are : AreRefusals (take l.number l.rows) l.test l.slots l.refusals;
  few_whole : l.refusals.whole ≤ l.number;
  few_lost : (slot : ℕ) → get_or l.refusals.lost slot 0 ≤ l.number;
}
