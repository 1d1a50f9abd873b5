use Rattle.layout_tables.proofs.CellKinds.{alike}
use Rattle.layout_tables.proofs.laws.rows_have_equal_counts.Goals as goal

pub returns : goal.returns
returns c = alike
