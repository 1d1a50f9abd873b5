use Rattle.std.proofs.Common.{ℕ, ◌≡◌, length, map, take}
use Rattle.parity_scan.specs.Equations.{factor_sum, mixed_sum}
use Rattle.parity_scan.specs.ImageSums.{held_byte}
use Rattle.parity_scan.proofs.equations.image_factors.Given as goal

abbrev pub invariant-loop-place : goal.invariant-loop-place
invariant-loop-place l = record {
  long : length l.factors ≡ 24;
  sums : (f : ℕ → ℕ) → factor_sum f l.factors 24 ≡ mixed_sum l.mix (take l.place l.cells) (map (held_byte f) l.slots);
}
