use Rattle.std.proofs.Common.{◌%◌, ap, arith}
use Rattle.layout_tables.proofs.TableLemmas.{period_few, period_some}
use Rattle.layout_tables.proofs.table.Table.place.Goals as goal

pub nonzero_rem-result : goal.nonzero_rem-result
nonzero_rem-result c = omega (arith, period_some c.args.self.now, c.from.ensures)

pub returns : goal.returns
returns c =
    let some = period_some c.args.self.now in
    let few = period_few c.args.self.now in
    let is = c.from.ensures in
    record { place = ap (λ n. c.args.row % n) is; below = omega arith }
