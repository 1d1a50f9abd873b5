use Rattle.std.proofs.Common.{◌≡◌, ◌==◌, ◌||◌, not}
use Rattle.row_relations.specs.Tables.{weight_of}
use Rattle.relation_lines.specs.Sets.{set_where}
use Rattle.relation_lines.proofs.sets.tie_of.Given as goal

abbrev pub invariant-loop-other : goal.invariant-loop-other
invariant-loop-other l = l.tie ≡ set_where l.other (λ other. (other == l.image) || not (weight_of l.table l.image other == 0))
