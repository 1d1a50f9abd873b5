use Rattle.std.proofs.Common.{Bool, ℕ, ◌≡◌, ◌<◌, ◌+◌, ◌*◌, rules, arith}
use Rattle.std.specs.Bool.{Decides}
use Rattle.member_regions.specs.ImageSums.{room_byte, sum_byte}
use Rattle.member_regions.proofs.ImageSums.{flags_more, is_sector}
use Rattle.member_regions.proofs.image_sums.image_sum.Goals as goal

pub loop-image-preserved : goal.loop-image-preserved
loop-image-preserved c = record {
  long = search rules;
  flags = flags_more
      (λ (i : ℕ) (flag : Bool). Decides flag ((x : ℕ) → x < 512 → sum_byte c.args.regions.now c.args.images c.args.place x ≡ room_byte c.args.regions.now (512 * c.args.place + x) i))
      c.loop-image.is_image c.loop-image.image c.are_same.result (omega arith) c.loop-image.invariant.flags
      (is_sector c.args.regions.now c.sum_at-sum.result c.region.result.now c.args.images c.loop-image.image c.args.place c.are_same.result
      c.sum_at-sum.ensures.long c.region.ensures.long c.region.ensures.sectors c.sum_at-sum.ensures.sum c.are_same.ensures);
}
