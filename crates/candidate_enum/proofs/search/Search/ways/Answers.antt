use Rattle.candidate_enum.proofs.Counting.{table_at}
use Rattle.candidate_enum.proofs.search.Search.ways.Goals as goal

pub returns : goal.returns
returns g c = table_at c.args.self.now.space c.args.self.now.counts c.args.left c.args.empty c.requires.members c.requires.counts c.requires.within
