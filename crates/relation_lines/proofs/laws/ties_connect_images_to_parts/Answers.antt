use Rattle.relation_lines.proofs.Parts.{share_none, ties_lie_in}
use Rattle.relation_lines.proofs.laws.ties_connect_images_to_parts.Goals as goal

pub returns-clause-apart : goal.returns-clause-apart
returns-clause-apart c = share_none

pub returns-clause-ties : goal.returns-clause-ties
returns-clause-ties c = ties_lie_in
