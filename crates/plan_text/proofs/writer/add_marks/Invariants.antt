use Rattle.std.proofs.Common.{◌≡◌, ◌++◌, map, take}
use Rattle.std.specs.List.{flat_map}
use Rattle.plan_text.specs.PlanText.{mark_line}
use Rattle.value_text.specs.Spelling.{line}
use Rattle.plan_text.proofs.writer.add_marks.Given as goal

abbrev pub invariant-loop-mark : goal.invariant-loop-mark
invariant-loop-mark l = l.text ≡ l.initial.text ++ flat_map line (map mark_line (take l.mark-index l.marks))
