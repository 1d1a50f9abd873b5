use Rattle.std.proofs.Common.{◌≡◌, ◌+◌, ◌≤◌, length}
use Rattle.rescue_text.specs.RescueText.{rescue_sections, sections_of, text_lines}
use Rattle.rescue_text.proofs.rescue.read_rescue.Given as goal

abbrev pub invariant-loop-line : goal.invariant-loop-line
invariant-loop-line l = record {
  few : l.taken + length l.rest ≤ length l.text;
  same : sections_of l.images (text_lines l.rest) l.taken l.draft ≡ rescue_sections l.images l.text;
}

abbrev pub decreases-loop-line : goal.decreases-loop-line
decreases-loop-line l = length l.rest
