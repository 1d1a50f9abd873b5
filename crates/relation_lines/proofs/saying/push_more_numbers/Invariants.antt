use Rattle.std.proofs.Common.{◌≡◌, ◌≤◌, ◌+◌, ◌*◌, ◌++◌, length, take, decimal}
use Rattle.std.specs.List.{flat_map}
use Rattle.relation_lines.specs.Text.{mark_text}
use Rattle.relation_lines.specs.declared.style.Mark.TheVariants.{ListBetween}
use Rattle.relation_lines.proofs.saying.push_more_numbers.Given as goal

abbrev pub invariant-loop-image : goal.invariant-loop-image
invariant-loop-image l =
    (l.line ≡ l.fn.line ++ flat_map (λ image. mark_text l.style ListBetween ++ decimal image) (take l.image-index l.images)) × (length l.line ≤ length l.fn.line + 32 * l.image-index)
