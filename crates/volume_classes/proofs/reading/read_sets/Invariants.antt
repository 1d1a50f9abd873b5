use Rattle.std.proofs.Common.{length}
use Rattle.volume_classes.proofs.ListSteps.{IsFar}
use Rattle.volume_classes.proofs.reading.read_sets.Given as goal

abbrev pub invariant-loop-line : goal.invariant-loop-line
invariant-loop-line l = IsFar l.images l.end l.text l.rest l.taken l.sets

abbrev pub decreases-loop-line : goal.decreases-loop-line
decreases-loop-line l = length l.rest
