use Rattle.std.proofs.Common.{rules}
use Rattle.std.proofs.iter.runs.Made.{chains}
use Rattle.raid_params.proofs.Counted.{empty_ones}
use Rattle.raid_params.proofs.slots.count_empty.Goals as goal

pub returns-clause-count : goal.returns-clause-count
returns-clause-count c = empty_ones c.count.result c.args.slots.now (search (rules, chains))
