use Rattle.near_search.proofs.Law.{no_copy}
use Rattle.near_search.proofs.laws.lost_chunks_have_no_copy.Goals as goal

pub returns : goal.returns
returns c = no_copy
