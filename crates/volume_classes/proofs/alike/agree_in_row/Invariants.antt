use Rattle.std.proofs.Common.{◌≡◌, ◌<◌, ℕ}
use Rattle.volume_classes.specs.Coefficients.{coefficient}
use Rattle.volume_classes.proofs.alike.agree_in_row.Given as goal

abbrev pub invariant-loop-item : goal.invariant-loop-item
invariant-loop-item l = (item image : ℕ) → item < l.item → image < l.images → coefficient l.one l.row item image ≡ coefficient l.other l.row item image
