use Rattle.std.proofs.Common.{ℕ, ◌≡◌, ◌<◌, length, slice_index}
use Rattle.std.specs.Simd.Lanes.{Each1}
use Rattle.gf256.specs.Field.{power_of, product}
use Rattle.row_parity.proofs.strips.times_power.Given as goal

abbrev pub invariant-loop : goal.invariant-loop
invariant-loop l = record {
  long : length l.product ≡ 64;
  fits : Each1 (λ k. k < 256) l.product;
  lanes : (lane : ℕ) → lane < 64 → slice_index l.product lane ≡ product (power_of l.counter) (slice_index l.fn.x lane);
}
