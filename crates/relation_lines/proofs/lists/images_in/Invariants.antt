use Rattle.std.proofs.Common.{◌≡◌, ◌≤◌, length}
use Rattle.relation_lines.specs.Sets.{images_below, is_in}
use Rattle.relation_lines.proofs.lists.images_in.Given as goal

abbrev pub invariant-loop-image : goal.invariant-loop-image
invariant-loop-image l = (l.images.items ≡ images_below (is_in l.set) l.image) × (length l.images.items ≤ l.image)
