use Rattle.layout_tables.proofs.CellKinds.{used}
use Rattle.layout_tables.proofs.laws.each_slot_is_used.Goals as goal

pub returns : goal.returns
returns c = used
