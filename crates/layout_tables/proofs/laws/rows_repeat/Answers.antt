use Rattle.layout_tables.proofs.CellKinds.{repeat}
use Rattle.layout_tables.proofs.laws.rows_repeat.Goals as goal

pub returns : goal.returns
returns c = repeat
