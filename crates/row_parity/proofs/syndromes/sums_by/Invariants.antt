use Rattle.std.proofs.Common.{ℕ, ◌≡◌, ◌<◌, ◌*◌, length, slice_index}
use Rattle.raid_terms.specs.Parity.{in_p, in_q}
use Rattle.row_parity.specs.Regions.{region_column}
use Rattle.row_parity.specs.Syndromes.{sum_at}
use Rattle.row_parity.proofs.syndromes.sums_by.Given as goal

abbrev pub invariant-loop-strip : goal.invariant-loop-strip
invariant-loop-strip l = record {
  p_long : length l.sums.p ≡ 512;
  q_long : length l.sums.q ≡ 512;
  p : (x : ℕ) → x < 64 * l.strip → slice_index l.sums.p x ≡ sum_at in_p l.cells (region_column (length l.cells) l.stride l.sectors l.j) x;
  q : (x : ℕ) → x < 64 * l.strip → slice_index l.sums.q x ≡ sum_at in_q l.cells (region_column (length l.cells) l.stride l.sectors l.j) x;
}
