use Rattle.pq_parity.specs.Needs.{HoldLostData, KeepAllBut}
use Rattle.pq_parity.proofs.RowSteps.{columns_of}
use Rattle.pq_parity.proofs.lost_data.solve_by_both.Given as goal

abbrev pub invariant-loop-row : goal.invariant-loop-row
invariant-loop-row l = record {
  lost : HoldLostData l.cells l.rows.stride l.rows.from l.row l.sectors (columns_of l.cells l.rows.stride l.fn.sectors);
  others : KeepAllBut l.cells l.rows.stride l.rows.from l.row l.fn.sectors l.sectors;
}
