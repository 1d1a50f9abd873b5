use Rattle.row_relations.proofs.Unique.{one_table}
use Rattle.row_relations.proofs.laws.a_row_has_one_table.Goals as goal

pub returns : goal.returns
returns c = one_table
