use Rattle.std.proofs.Common.{◌≡◌, ◌++◌, take}
use Rattle.std.specs.List.{flat_map}
use Rattle.plan_text.specs.PlanText.{group_lines}
use Rattle.value_text.specs.Spelling.{line}
use Rattle.plan_text.proofs.writer.add_groups.Given as goal

abbrev pub invariant-loop-group : goal.invariant-loop-group
invariant-loop-group l = l.text ≡ l.initial.text ++ flat_map line (flat_map group_lines (take l.group-index l.groups))
