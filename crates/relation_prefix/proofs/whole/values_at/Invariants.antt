use Rattle.std.proofs.Common.{ℕ, ◌≡◌, ◌<◌, length, get_or}
use Rattle.row_relations.specs.Rows.{AreBytes}
use Rattle.relation_prefix.specs.Ties.{HaveAll}
use Rattle.relation_prefix.proofs.whole.values_at.Given as goal

abbrev pub invariant-loop-t : goal.invariant-loop-t
invariant-loop-t l = record {
  long : length l.values ≡ 8;
  bytes : AreBytes l.values;
  values : (x : ℕ → ℕ) → HaveAll l.ties l.weights (length l.slots) l.slots x → (k : ℕ) → k < l.t → x k ≡ get_or l.values k 0;
}
