use Rattle.near_search.proofs.Law.{no_rule}
use Rattle.near_search.proofs.laws.passing_mirrors_break_no_rule.Goals as goal

pub returns : goal.returns
returns c = no_rule
