use Rattle.near_tables.proofs.Told.{tables_tell}
use Rattle.near_tables.proofs.laws.tables_tell_what_is_torn.Goals as goal

pub returns : goal.returns
returns c = tables_tell
