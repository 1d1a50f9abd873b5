use Rattle.layout_tables.proofs.Readings.{one_spelling}
use Rattle.layout_tables.proofs.laws.tables_have_one_spelling.Goals as goal

pub returns : goal.returns
returns c = one_spelling
