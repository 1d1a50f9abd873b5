use Rattle.std.proofs.Common.{◌≡◌, ◌≤◌, length}
use Rattle.relation_lines.specs.Sets.{parts_below}
use Rattle.relation_lines.proofs.sets.parts_of.Given as goal

abbrev pub invariant-loop-image : goal.invariant-loop-image
invariant-loop-image l = (l.parts.items ≡ parts_below l.table l.image) × (length l.parts.items ≤ l.image)
