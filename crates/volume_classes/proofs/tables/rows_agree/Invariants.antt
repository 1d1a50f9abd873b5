use Rattle.std.proofs.Common.{ℕ, ◌<◌, ◌-◌}
use Rattle.raid_params.specs.declared.types.Geometry.{Geometry}
use Rattle.volume_classes.specs.Coefficients.{AgreeInRow}
use Rattle.volume_classes.specs.Tables.{IsTable}
use Rattle.volume_classes.proofs.tables.rows_agree.Given as goal

abbrev pub invariant-loop-row : goal.invariant-loop-row
invariant-loop-row l = (a b : Geometry) → IsTable l.images l.end a l.one → IsTable l.images l.end b l.other → (row : ℕ) → row < l.row → AgreeInRow a b l.images row

abbrev pub decreases-loop-row : goal.decreases-loop-row
decreases-loop-row l = l.count - l.row
