use Rattle.layout_tables.proofs.Repeats.{least_is}
use Rattle.layout_tables.proofs.laws.least_periods_are_least.Goals as goal

pub returns : goal.returns
returns c = least_is
