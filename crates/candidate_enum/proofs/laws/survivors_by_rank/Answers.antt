use Rattle.candidate_enum.proofs.Ranks.{survivors_by_rank}
use Rattle.candidate_enum.proofs.laws.survivors_by_rank.Goals as goal

pub returns : goal.returns
returns c = survivors_by_rank
