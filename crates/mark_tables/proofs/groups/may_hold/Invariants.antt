use Rattle.std.proofs.Common.{◌≡◌, take, false}
use Rattle.std.specs.List.{list_any}
use Rattle.landmark_rules.specs.Groups.{origins_for}
use Rattle.mark_tables.specs.Marks.{may_hold_at}
use Rattle.mark_tables.proofs.groups.may_hold.Given as goal

abbrev pub invariant-loop-table : goal.invariant-loop-table
invariant-loop-table l = list_any (may_hold_at l.beginning.plan.now l.beginning.head.now l.beginning.prefix.now l.group) (take l.table-index (origins_for l.beginning.plan.now.tests l.group.kind)) ≡ false
