use Rattle.plan_text.proofs.PlanEnds.{one_spelling}
use Rattle.plan_text.proofs.laws.one_spelling.Goals as goal

pub returns : goal.returns
returns c = one_spelling
