use Rattle.std.proofs.Common.{ℕ, ◌≡◌, arith}
use Rattle.member_regions.proofs.ImageSums.{each_more, not_blank}
use Rattle.member_regions.proofs.image_sums.are_blank.Goals as goal

pub returns-then-not-are_zeros : goal.returns-then-not-are_zeros
returns-then-not-are_zeros c =
    not_blank c.args.regions.now c.region.result.now c.args.images c.loop-image.image c.args.place c.are_zeros.result (omega arith) c.region.ensures.long c.region.ensures.sectors c.are_zeros.ensures
    c.if-not-are_zeros.true

pub loop-image-preserved : goal.loop-image-preserved
loop-image-preserved c =
    each_more (λ (b : ℕ). b ≡ 0) c.args.regions.now c.region.result.now c.loop-image.image c.args.place
    (λ x below. c.are_zeros.ensures.0 c.if-not-are_zeros.false x (omega (arith, c.region.ensures.long))) c.region.ensures.sectors c.loop-image.invariant
