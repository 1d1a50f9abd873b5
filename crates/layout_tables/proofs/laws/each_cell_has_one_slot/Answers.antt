use Rattle.layout_tables.proofs.CellKinds.{one_slot}
use Rattle.layout_tables.proofs.laws.each_cell_has_one_slot.Goals as goal

pub returns : goal.returns
returns c = one_slot
