use Rattle.std.proofs.Common.{ℕ, ◌≡◌, ◌<◌, ◌+◌, ◌*◌, length, slice_index}
use Rattle.raid_terms.specs.Parity.{in_q}
use Rattle.row_parity.specs.Syndromes.{sum_at}
use Rattle.row_parity.specs.Regions.{region_column}
use Rattle.pq_parity.proofs.FilledRows.{KeepStrips}
use Rattle.pq_parity.proofs.fills.fill_row_by_q.Given as goal

abbrev pub invariant-loop-strip : goal.invariant-loop-strip
invariant-loop-strip l = record {
  sums : (x : ℕ) → x < 64 * l.strip → slice_index l.sectors (l.stride * l.place + (512 * l.j + x)) ≡ sum_at in_q l.cells (region_column (length l.cells) l.stride l.fn.sectors l.j) x;
  others : KeepStrips l.stride l.j l.place l.strip l.fn.sectors l.sectors;
}
