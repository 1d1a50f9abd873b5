use Rattle.std.proofs.Common.{ℕ, ◌≡◌, ◌<◌, ◌+◌, ◌*◌, false, length, get_or}
use Rattle.std.specs.Bool.{Decides}
use Rattle.raid_params.specs.declared.limits.TheConstants.{MOST}
use Rattle.member_regions.specs.ImageSums.{room_byte, sum_byte}
use Rattle.member_regions.proofs.image_sums.image_sum.Given as goal

abbrev pub invariant-loop-image : goal.invariant-loop-image
invariant-loop-image l = record {
  long : length l.is_image ≡ MOST;
  flags : (i : ℕ) → i < l.image → Decides (get_or l.is_image i false) ((x : ℕ) → x < 512 → sum_byte l.regions l.images l.place x ≡ room_byte l.regions (512 * l.place + x) i);
}
