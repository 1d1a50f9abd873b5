use Rattle.std.proofs.Common.{◌≡◌, replicate}
use Rattle.raid_params.specs.declared.limits.TheConstants.{MOST}
use Rattle.near_tables.proofs.torn_table.new_counts.Given as goal

abbrev pub invariant-loop : goal.invariant-loop
invariant-loop l = l.counts.items ≡ replicate l.counter (replicate MOST (replicate MOST 0))
