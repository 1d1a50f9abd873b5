use Rattle.std.proofs.Common.{◌≡◌, ◌≤◌, length}
use Rattle.relation_prefix.specs.Ties.{dependents}
use Rattle.relation_prefix.proofs.row_ties.dependents_of.Given as goal

abbrev pub invariant-loop-image : goal.invariant-loop-image
invariant-loop-image l = record { items : l.list.items ≡ dependents l.table l.image; few : length l.list.items ≤ 8 }
