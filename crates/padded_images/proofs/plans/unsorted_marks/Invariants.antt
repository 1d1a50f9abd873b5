use Rattle.std.proofs.Common.{◌≡◌, take, map}
use Rattle.padded_images.specs.Plans.{padded_mark}
use Rattle.padded_images.proofs.plans.unsorted_marks.Given as goal

abbrev pub invariant-loop-mark : goal.invariant-loop-mark
invariant-loop-mark l = l.unsorted.items ≡ map (padded_mark l.bases) (take l.mark-index l.mark-items)
