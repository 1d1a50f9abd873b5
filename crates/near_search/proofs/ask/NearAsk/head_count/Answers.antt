use Rattle.std.proofs.Common.{sym}
use Rattle.near_search.proofs.HeadPlaces.{heads_long}
use Rattle.near_search.proofs.ask.NearAsk.head_count.Goals as goal

pub returns : goal.returns
returns c = rw (c.len.ensures.value, c.layout_count.ensures.value) (sym (heads_long c.args.self.now))
