use Rattle.std.proofs.Common.{ℕ, arith, rules}
use Rattle.member_regions.specs.ImageSums.{IsImageSum}
use Rattle.member_regions.specs.declared.image_sums.ImageSum.{ImageSum}
use Rattle.member_regions.proofs.ImageSums.{places_more}
use Rattle.member_regions.proofs.image_sums.sum_images.Goals as goal

pub loop-place-preserved : goal.loop-place-preserved
loop-place-preserved c = record {
  long = search rules;
  each = places_more (λ (place : ℕ) (sum : ImageSum). IsImageSum c.args.regions.now c.args.images place sum) c.loop-place.sums c.loop-place.place c.image_sum.result (omega arith)
      c.loop-place.invariant.each c.image_sum.ensures;
}
