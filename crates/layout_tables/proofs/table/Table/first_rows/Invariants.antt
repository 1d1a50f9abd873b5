use Rattle.std.proofs.Common.{◌≡◌}
use Rattle.layout_tables.specs.Periods.{first_of_grid}
use Rattle.layout_tables.proofs.table.Table.first_rows.Given as goal

abbrev pub invariant-loop-at : goal.invariant-loop-at
invariant-loop-at l = l.grid ≡ first_of_grid l.self.grid l.at
