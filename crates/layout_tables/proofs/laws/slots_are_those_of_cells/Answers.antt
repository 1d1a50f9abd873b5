use Rattle.layout_tables.proofs.CellKinds.{slots_are}
use Rattle.layout_tables.proofs.laws.slots_are_those_of_cells.Goals as goal

pub returns : goal.returns
returns c = slots_are
