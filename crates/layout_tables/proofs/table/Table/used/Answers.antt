use Rattle.std.proofs.Common.{arith}
use Rattle.layout_tables.proofs.CellKinds.{in_range, items_few}
use Rattle.layout_tables.proofs.table.Table.used.Goals as goal

pub overflow_add-result : goal.overflow_add-result
overflow_add-result c = omega (arith, items_few c.args.self.now, (in_range c.args.self.now).most_parities)
