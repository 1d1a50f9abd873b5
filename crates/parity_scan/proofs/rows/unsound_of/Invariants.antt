use Rattle.std.proofs.Common.{◌≡◌, ◌≤◌}
use Rattle.raid_terms.specs.Cells.{row_cells}
use Rattle.parity_scan.specs.Block.{unsound_in}
use Rattle.parity_scan.proofs.rows.unsound_of.Given as goal

abbrev pub invariant-loop-j : goal.invariant-loop-j
invariant-loop-j l = record {
  counted : l.sum ≡ unsound_in l.geo l.regions l.first l.j;
  few : l.sum ≤ l.j;
  cells : l.cells.items ≡ row_cells l.geo l.at;
}
