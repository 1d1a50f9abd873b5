use Rattle.raid_terms.specs.Parity.{in_q}
use Rattle.row_parity.specs.Regions.{HoldSums, KeepOthers}
use Rattle.pq_parity.proofs.fills.fill_by_q.Given as goal

abbrev pub invariant-loop-row : goal.invariant-loop-row
invariant-loop-row l = record {
  sums : HoldSums in_q l.cells l.rows.stride l.rows.from l.row l.place l.fn.sectors l.sectors;
  others : KeepOthers l.rows.stride l.rows.from l.row l.place l.fn.sectors l.sectors;
}
