use Rattle.std.proofs.Common.{◌≡◌, take, true}
use Rattle.std.specs.List.{list_all}
use Rattle.mark_tables.specs.Marks.{may_hold}
use Rattle.mark_tables.proofs.groups.groups_may_hold.Given as goal

abbrev pub invariant-loop-place : goal.invariant-loop-place
invariant-loop-place l = list_all (may_hold l.plan l.head l.prefix) (take l.place l.plan.groups) ≡ true
