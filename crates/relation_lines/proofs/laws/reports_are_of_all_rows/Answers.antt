use Rattle.relation_lines.proofs.Said.{said_is}
use Rattle.relation_lines.proofs.laws.reports_are_of_all_rows.Goals as goal

pub returns : goal.returns
returns c = said_is
