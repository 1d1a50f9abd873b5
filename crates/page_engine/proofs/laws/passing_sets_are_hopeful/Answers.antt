use Rattle.page_engine.proofs.Law.{hopeful}
use Rattle.page_engine.proofs.laws.passing_sets_are_hopeful.Goals as goal

pub returns : goal.returns
returns c = hopeful
