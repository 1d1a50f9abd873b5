use Rattle.prune_filters.proofs.Law.{hopeful}
use Rattle.prune_filters.proofs.laws.passing_sets_are_hopeful.Goals as goal

pub returns : goal.returns
returns c = hopeful
