use Rattle.relation_prefix.proofs.Begun.{passing_may_begin}
use Rattle.relation_prefix.proofs.laws.passing_sets_may_begin.Goals as goal

pub returns : goal.returns
returns c = passing_may_begin
