use Rattle.plan_text.proofs.RefusedLines.{one_line_is_refused}
use Rattle.plan_text.proofs.laws.one_refused_line.Goals as goal

pub returns : goal.returns
returns c = one_line_is_refused
