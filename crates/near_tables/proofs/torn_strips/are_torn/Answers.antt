use Rattle.near_tables.proofs.Strips.{apart}
use Rattle.near_tables.proofs.torn_strips.are_torn.Goals as goal

pub returns : goal.returns
returns c =
    apart c.args.first.now c.args.second.now c.args.one c.args.other c.args.j c.region.result.now c.region-2.result.now c.are_same.result
    c.region.ensures.long c.region-2.ensures.long c.region.ensures.sectors c.region-2.ensures.sectors c.are_same.ensures
