use Rattle.std.proofs.Common.{◌≡◌, ◌≤◌, ◌<◌, ◌==◌, not, length, All}
use Rattle.row_relations.specs.Tables.{weight_of}
use Rattle.relation_lines.specs.Sets.{images_below}
use Rattle.relation_lines.proofs.lists.summands_of.Given as goal

abbrev pub invariant-loop-other : goal.invariant-loop-other
invariant-loop-other l = (l.images.items ≡ images_below (λ other. not (weight_of l.table l.image other == 0)) l.other) × (length l.images.items ≤ l.other) × All (λ image. image < length l.table.standings) l.images.items
