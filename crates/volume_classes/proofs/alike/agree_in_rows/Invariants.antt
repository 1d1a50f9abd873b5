use Rattle.std.proofs.Common.{◌<◌, ◌-◌, ℕ}
use Rattle.volume_classes.specs.Coefficients.{AgreeInRow}
use Rattle.volume_classes.proofs.alike.agree_in_rows.Given as goal

abbrev pub invariant-loop-row : goal.invariant-loop-row
invariant-loop-row l = (row : ℕ) → row < l.row → AgreeInRow l.one l.other l.images row

abbrev pub decreases-loop-row : goal.decreases-loop-row
decreases-loop-row l = l.count - l.row
