use Rattle.std.proofs.Common.{◌≡◌, ℕ, ◌<◌, get_or}
use Rattle.raid_params.specs.declared.types.Level.{Level}
use Rattle.xor_tables.specs.Early.{IsSettledFor}
use Rattle.search_plan.specs.Rows.{tested_with}
use Rattle.xor_tables.proofs.row_tally.RowTally.settles_levels.Given as goal

abbrev pub invariant-loop-level : goal.invariant-loop-level
invariant-loop-level l = (offset : ℕ) → l.rows ≡ tested_with l.plan l.pace.chunk offset → (k : ℕ) (d : Level) → k < l.level-index → IsSettledFor l.plan l.pace offset l.self (get_or l.plan.bounds.levels.items k d)
