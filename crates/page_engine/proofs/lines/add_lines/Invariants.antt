use Rattle.std.proofs.Common.{take}
use Rattle.page_engine.specs.Lines.{AddsPadded}
use Rattle.page_engine.proofs.lines.add_lines.Given as goal

abbrev pub invariant-loop-line : goal.invariant-loop-line
invariant-loop-line l = AddsPadded l.part l.first (take l.line-index l.found) l.fn.lines l.lines
