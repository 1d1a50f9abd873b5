use Rattle.std.proofs.Common.{◌≡◌, take, true}
use Rattle.std.specs.List.{list_all}
use Rattle.std.specs.Option.{is_some}
use Rattle.landmark_rules.specs.Groups.{held_origin}
use Rattle.landmark_rules.proofs.testing.groups_hold.Given as goal

abbrev pub invariant-loop-group : goal.invariant-loop-group
invariant-loop-group l = list_all (λ group. is_some (held_origin l.geo l.end l.tests group)) (take l.group-index l.group-items) ≡ true
