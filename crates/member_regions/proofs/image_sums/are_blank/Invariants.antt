use Rattle.member_regions.specs.ImageSums.{IsBlankAt}
use Rattle.member_regions.proofs.image_sums.are_blank.Given as goal

abbrev pub invariant-loop-image : goal.invariant-loop-image
invariant-loop-image l = IsBlankAt l.regions l.image l.place
