use Rattle.candidate_enum.proofs.Keeping.{kept_first}
use Rattle.candidate_enum.proofs.walk.Walk.new.Goals as goal

pub returns-clause-kept : goal.returns-clause-kept
returns-clause-kept c = kept_first c.new.result.items c.new.ensures
