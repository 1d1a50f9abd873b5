use Rattle.raid_params.specs.declared.limits.TheConstants.{MOST}
use Rattle.near_tables.proofs.Strips.{counts_none, no_lanes}
use Rattle.near_tables.proofs.torn_table.TornTable.new.Goals as goal

pub returns-clause-none : goal.returns-clause-none
returns-clause-none c = λ bytes images end limit head. counts_none bytes images head end limit _ (no_lanes 16 MOST MOST _ c.in_ok-counts.ensures.zeros)
