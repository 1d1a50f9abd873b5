use Rattle.row_relations.proofs.Ties.{relations_are_ties}
use Rattle.row_relations.proofs.laws.relations_are_sums_of_ties.Goals as goal

pub returns : goal.returns
returns c = relations_are_ties
