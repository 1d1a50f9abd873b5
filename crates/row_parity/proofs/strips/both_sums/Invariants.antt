use Rattle.std.proofs.Common.{ℕ, ◌≡◌, ◌<◌, ◌+◌, length, slice_index}
use Rattle.std.specs.Simd.Lanes.{Each1}
use Rattle.gf256.specs.Field.{double}
use Rattle.row_parity.specs.Known.{falling, same}
use Rattle.row_parity.specs.Regions.{region_byte}
use Rattle.row_parity.proofs.strips.both_sums.Given as goal

abbrev pub invariant-loop-step : goal.invariant-loop-step
invariant-loop-step l = record {
  p_long : length l.p ≡ 64;
  p_fits : Each1 (λ k. k < 256) l.p;
  q_long : length l.q ≡ 64;
  q_fits : Each1 (λ k. k < 256) l.q;
  p : (lane : ℕ) → lane < 64 → slice_index l.p lane ≡ falling same l.known.data_places l.known.end l.step (region_byte l.sectors l.stride (l.at + lane));
  q : (lane : ℕ) → lane < 64 → slice_index l.q lane ≡ falling double l.known.data_places l.known.end l.step (region_byte l.sectors l.stride (l.at + lane));
}
