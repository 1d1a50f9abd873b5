use Rattle.std.proofs.Common.{refl, rules, arith, subst, sym, List, get_or, ◌≡◌, ◌<◌, ◌+◌, ℕ}
use Rattle.member_regions.specs.ImageSums.{sum_byte}
use Rattle.member_regions.proofs.ImageSums.{each_more, summed_more, summed_none}
use Rattle.member_regions.proofs.image_sums.sum_at.Goals as goal

pub loop-image-init : goal.loop-image-init
loop-image-init c = record { long = refl; sum = λ x below. summed_none c.args.regions.now c.args.place x below; bytes = λ i x none below. absurd (omega arith) }

pub loop-image-preserved : goal.loop-image-preserved
loop-image-preserved c = record {
  long = search rules;
  sum = λ x below.
      subst (λ (xs : List ℕ). get_or xs x 0 ≡ sum_byte c.args.regions.now (c.loop-image.image + 1) c.args.place x) (sym c.add_sector.ensures.sum)
      (summed_more c.args.regions.now c.loop-image.sum c.region.result.now c.loop-image.image c.args.place x c.loop-image.invariant.long c.region.ensures.long c.region.ensures.sectors (c.loop-image.invariant.sum x below) below);
  bytes = each_more (λ (b : ℕ). b < 256) c.args.regions.now c.region.result.now c.loop-image.image c.args.place (λ x below. c.add_sector.ensures.bytes x) c.region.ensures.sectors
      c.loop-image.invariant.bytes;
}
