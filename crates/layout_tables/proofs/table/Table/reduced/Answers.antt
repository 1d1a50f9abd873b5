use Rattle.std.proofs.Common.{ℕ, ap, ◌∙◌, arith}
use Rattle.layout_tables.specs.Periods.{first_of_grid}
use Rattle.layout_tables.proofs.Reducing.{cut_grid_is, cut_is_drawn, rows_reduced, same_cells}
use Rattle.layout_tables.proofs.Repeats.{least_is}
use Rattle.layout_tables.proofs.table.Table.reduced.Goals as goal

pub first_rows-requires : goal.first_rows-requires
first_rows-requires c = omega (arith, (least_is c.args.self.now).1, c.least_period-period.ensures)

pub invariant_of-result : goal.invariant_of-result
invariant_of-result c =
    let table = c.args.self.now in
    let is = c.least_period-period.ensures in
    let grid = cut_grid_is table c.first_rows.result (c.first_rows.ensures ∙ ap (λ (n : ℕ). first_of_grid table.grid n) is) in
    record { drawn = cut_is_drawn table c.first_rows.result c.least_period-period.result is grid }

pub returns-clause-rows : goal.returns-clause-rows
returns-clause-rows c =
    let table = c.args.self.now in
    let is = c.least_period-period.ensures in
    let grid = cut_grid_is table c.first_rows.result (c.first_rows.ensures ∙ ap (λ (n : ℕ). first_of_grid table.grid n) is) in
    rows_reduced table _ _ is grid _

pub returns-clause-cells : goal.returns-clause-cells
returns-clause-cells c =
    let table = c.args.self.now in
    let is = c.least_period-period.ensures in
    let grid = cut_grid_is table c.first_rows.result (c.first_rows.ensures ∙ ap (λ (n : ℕ). first_of_grid table.grid n) is) in
    same_cells table _ (rows_reduced table _ _ is grid _)
