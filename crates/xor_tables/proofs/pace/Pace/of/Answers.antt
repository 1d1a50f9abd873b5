use Rattle.xor_tables.proofs.Paces.{pace_valid}
use Rattle.xor_tables.proofs.pace.Pace.of.Goals as goal

pub returns-clause-pace : goal.returns-clause-pace
returns-clause-pace c = pace_valid c.args.head.now c.requires
