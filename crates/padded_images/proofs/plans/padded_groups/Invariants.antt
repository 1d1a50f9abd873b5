use Rattle.std.proofs.Common.{◌≡◌, take, map}
use Rattle.padded_images.specs.Plans.{padded_group}
use Rattle.padded_images.proofs.plans.padded_groups.Given as goal

abbrev pub invariant-loop-group : goal.invariant-loop-group
invariant-loop-group l = l.padded ≡ map (padded_group l.bases) (take l.group-index l.group-items)
