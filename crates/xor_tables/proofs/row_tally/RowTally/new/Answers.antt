use Rattle.std.proofs.Common.{refl, arith}
use Rattle.raid_params.specs.declared.limits.TheConstants.{MOST}
use Rattle.xor_tables.proofs.Sectors.{no_counts}
use Rattle.xor_tables.proofs.row_tally.RowTally.new.Goals as goal

pub returns-clause-counts : goal.returns-clause-counts
returns-clause-counts c = λ images count span offset. record { all = refl; beside = λ k i low below. no_counts MOST MOST k i }

pub returns-clause-few : goal.returns-clause-few
returns-clause-few c = record { all = omega arith; beside = λ k i. let e = no_counts MOST MOST k i in omega arith }
