use Rattle.std.proofs.Common.{ℕ, ◌≡◌, ◌<◌, ◌+◌, length, map, slice_index, take}
use Rattle.std.specs.List.{range_with_len}
use Rattle.std.specs.Simd.Lanes.{Each1}
use Rattle.raid_terms.specs.Parity.{in_p}
use Rattle.row_parity.specs.Regions.{region_byte}
use Rattle.row_parity.specs.Syndromes.{known_sum}
use Rattle.row_parity.proofs.strips.p_sum.Given as goal

abbrev pub invariant-loop-place : goal.invariant-loop-place
invariant-loop-place l = record {
  long : length l.p ≡ 64;
  fits : Each1 (λ k. k < 256) l.p;
  lanes : (lane : ℕ) → lane < 64 → slice_index l.p lane ≡ known_sum in_p (take l.place l.cells) (map (region_byte l.sectors l.stride (l.at + lane)) (range_with_len 0 (length l.cells)));
}
