use Rattle.parity_scan.specs.ImageSums.{IsUnmarked}
use Rattle.parity_scan.proofs.left_out.unmarked.Given as goal

abbrev pub invariant-loop-image : goal.invariant-loop-image
invariant-loop-image l = IsUnmarked l.marks l.image l.out
