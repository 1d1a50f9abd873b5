use Rattle.std.proofs.Common.{ℕ, ◌<◌}
use Rattle.volume_classes.specs.Tables.{TellsNone}
use Rattle.volume_classes.proofs.numbering.alike_first.Given as goal

abbrev pub invariant-loop-place : goal.invariant-loop-place
invariant-loop-place l = (place : ℕ) → place < l.place → TellsNone l.images l.end l.firsts place l.table
