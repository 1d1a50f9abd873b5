use Rattle.layout_tables.proofs.CellKinds.{has_cell}
use Rattle.layout_tables.proofs.laws.each_slot_has_a_cell.Goals as goal

pub returns : goal.returns
returns c = has_cell
