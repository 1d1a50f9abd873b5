use Rattle.std.proofs.Common.{◌≡◌, ◌≤◌, ◌+◌, ◌*◌, ◌++◌, length, take}
use Rattle.std.specs.List.{flat_map}
use Rattle.relation_lines.specs.Text.{mark_text, tie_text}
use Rattle.relation_lines.specs.declared.style.Mark.TheVariants.{TieBetween}
use Rattle.relation_lines.proofs.saying.push_more_ties.Given as goal

abbrev pub invariant-loop-image : goal.invariant-loop-image
invariant-loop-image l =
    (l.line ≡ l.fn.line ++ flat_map (λ image. mark_text l.style TieBetween ++ tie_text l.style l.table image) (take l.image-index l.images)) × (length l.line ≤ length l.fn.line + 6112 * l.image-index)
