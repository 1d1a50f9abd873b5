use Rattle.std.proofs.Common.{◌≡◌, length}
use Rattle.member_regions.specs.ImageSums.{SumImages}
use Rattle.member_regions.specs.declared.regions.TheConstants.{BLOCK}
use Rattle.member_regions.proofs.image_sums.sum_images.Given as goal

abbrev pub invariant-loop-place : goal.invariant-loop-place
invariant-loop-place l = record {
  long : length l.sums ≡ BLOCK;
  each : SumImages l.regions l.images l.place l.sums;
}
