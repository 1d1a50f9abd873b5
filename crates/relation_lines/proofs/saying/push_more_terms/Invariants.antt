use Rattle.std.proofs.Common.{◌≡◌, ◌≤◌, ◌+◌, ◌*◌, ◌++◌, length, take}
use Rattle.std.specs.List.{flat_map}
use Rattle.relation_lines.specs.Text.{mark_text, term_text}
use Rattle.relation_lines.specs.declared.style.Mark.TheVariants.{TermBetween}
use Rattle.relation_lines.proofs.saying.push_more_terms.Given as goal

abbrev pub invariant-loop-other : goal.invariant-loop-other
invariant-loop-other l =
    (l.line ≡ l.fn.line ++ flat_map (λ other. mark_text l.style TermBetween ++ term_text l.style l.table l.fn.image other) (take l.other-index l.others)) × (length l.line ≤ length l.fn.line + 88 * l.other-index)
