use Rattle.std.proofs.Common.{ℕ, length}
use Rattle.raid_terms.specs.Parity.{in_p}
use Rattle.row_parity.specs.Regions.{region_column, HoldSums, KeepOthers}
use Rattle.row_parity.specs.Syndromes.{AreColumns}
use Rattle.pq_parity.proofs.fills.fill_by_p.Given as goal

abbrev pub invariant-loop-row : goal.invariant-loop-row
invariant-loop-row l = record {
  columns : (j : ℕ) → AreColumns l.cells (region_column (length l.cells) l.rows.stride l.fn.sectors j);
  sums : HoldSums in_p l.cells l.rows.stride l.rows.from l.row l.place l.fn.sectors l.sectors;
  others : KeepOthers l.rows.stride l.rows.from l.row l.place l.fn.sectors l.sectors;
}
