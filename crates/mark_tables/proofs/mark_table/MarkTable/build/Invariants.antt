use Rattle.std.proofs.Common.{◌≡◌, ℕ, ◌<◌, [], length, map, get_or, Some}
use Rattle.std.specs.List.{slice_get}
use Rattle.landmark_rules.specs.declared.marks.Group.{Group}
use Rattle.mark_tables.specs.Tables.{IsGroupTable}
use Rattle.mark_tables.proofs.mark_table.MarkTable.build.Given as goal

abbrev pub invariant-loop-group : goal.invariant-loop-group
invariant-loop-group l = record {
  long : length l.tables.items ≡ l.group-index;
  each : (g : ℕ) (group : Group) → g < l.group-index → slice_get l.groups g ≡ Some group →
      IsGroupTable l.head l.plan.end l.plan.tests group (get_or (map (λ table. table.origins.items) l.tables.items) g []);
}
