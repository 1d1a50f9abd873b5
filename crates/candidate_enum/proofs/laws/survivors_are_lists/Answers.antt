use Rattle.candidate_enum.proofs.Ranks.{survivors_are_lists}
use Rattle.candidate_enum.proofs.laws.survivors_are_lists.Goals as goal

pub returns : goal.returns
returns c = survivors_are_lists
