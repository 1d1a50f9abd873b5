use Rattle.survey_engine.proofs.MostVotes.{most_decide}
use Rattle.survey_engine.proofs.majority.most_superblocks_decide.Goals as goal

pub returns : goal.returns
returns c = most_decide
