use Rattle.std.proofs.Common.{◌≡◌, ◌≤◌, ◌<◌, length, All}
use Rattle.row_relations.specs.Tables.{standing_of}
use Rattle.relation_lines.specs.Sets.{images_below, is_dependent}
use Rattle.relation_lines.proofs.lists.dependents_of.Given as goal

abbrev pub invariant-loop-image : goal.invariant-loop-image
invariant-loop-image l = (l.images.items ≡ images_below (λ image. is_dependent (standing_of l.table image)) l.image) × (length l.images.items ≤ l.image) × All (λ image. image < length l.table.standings) l.images.items
