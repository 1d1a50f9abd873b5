use Rattle.std.proofs.Common.{◌≡◌, ◌≤◌, count_by, not, take}
use Rattle.relation_prefix.proofs.row_ties.RowTies.tells_much.Given as goal

abbrev pub invariant-loop-image : goal.invariant-loop-image
invariant-loop-image l = (l.held ≡ count_by not (take l.image l.self.zeros)) × (l.held ≤ l.image)
