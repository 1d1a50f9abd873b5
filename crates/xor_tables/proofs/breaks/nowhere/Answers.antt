use Rattle.raid_params.specs.declared.limits.TheConstants.{MOST}
use Rattle.xor_tables.proofs.Sectors.{no_counts}
use Rattle.xor_tables.proofs.breaks.nowhere.Goals as goal

pub returns-clause-none : goal.returns-clause-none
returns-clause-none c = λ slot i. no_counts MOST MOST slot i
