use Rattle.near_search.proofs.Law.{hopeful}
use Rattle.near_search.proofs.laws.passing_mirrors_are_hopeful.Goals as goal

pub returns : goal.returns
returns c = hopeful
