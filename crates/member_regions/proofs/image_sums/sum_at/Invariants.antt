use Rattle.std.proofs.Common.{ℕ, ◌≡◌, ◌<◌, ◌+◌, ◌*◌, length, get_or}
use Rattle.member_regions.specs.ImageSums.{room_byte, sum_byte}
use Rattle.member_regions.proofs.image_sums.sum_at.Given as goal

abbrev pub invariant-loop-image : goal.invariant-loop-image
invariant-loop-image l = record {
  long : length l.sum ≡ 512;
  sum : (x : ℕ) → x < 512 → get_or l.sum x 0 ≡ sum_byte l.regions l.image l.place x;
  bytes : (i x : ℕ) → i < l.image → x < 512 → room_byte l.regions (512 * l.place + x) i < 256;
}
