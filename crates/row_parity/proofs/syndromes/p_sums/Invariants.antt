use Rattle.std.proofs.Common.{ℕ, ◌≡◌, ◌<◌, ◌*◌, length, slice_index}
use Rattle.raid_terms.specs.Parity.{in_p}
use Rattle.row_parity.specs.Regions.{region_column}
use Rattle.row_parity.specs.Syndromes.{sum_at}
use Rattle.row_parity.proofs.syndromes.p_sums.Given as goal

abbrev pub invariant-loop-strip : goal.invariant-loop-strip
invariant-loop-strip l = record {
  long : length l.sums ≡ 512;
  bytes : (x : ℕ) → x < 64 * l.strip → slice_index l.sums x ≡ sum_at in_p l.cells (region_column (length l.cells) l.stride l.sectors l.j) x;
}
