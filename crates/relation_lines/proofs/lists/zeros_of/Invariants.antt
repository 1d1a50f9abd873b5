use Rattle.std.proofs.Common.{◌≡◌, ◌≤◌, length}
use Rattle.row_relations.specs.Tables.{standing_of}
use Rattle.relation_lines.specs.Sets.{images_below, is_zero}
use Rattle.relation_lines.proofs.lists.zeros_of.Given as goal

abbrev pub invariant-loop-image : goal.invariant-loop-image
invariant-loop-image l = (l.images.items ≡ images_below (λ image. is_zero (standing_of l.table image)) l.image) × (length l.images.items ≤ l.image)
