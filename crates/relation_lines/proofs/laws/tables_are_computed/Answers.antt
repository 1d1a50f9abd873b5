use Rattle.relation_lines.proofs.Tabled.{computed}
use Rattle.relation_lines.proofs.laws.tables_are_computed.Goals as goal

pub returns : goal.returns
returns c = computed
