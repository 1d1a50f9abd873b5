use Rattle.prune_filters.proofs.Law.{decide}
use Rattle.prune_filters.proofs.laws.rows_decide_level_five.Goals as goal

pub returns : goal.returns
returns c = decide
