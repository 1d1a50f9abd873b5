use Rattle.layout_tables.proofs.CellKinds.{in_range}
use Rattle.layout_tables.proofs.laws.numbers_are_in_range.Goals as goal

pub returns : goal.returns
returns c = in_range
