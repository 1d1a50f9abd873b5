use Rattle.std.proofs.Common.{◌≡◌, ◌++◌, take}
use Rattle.volume_classes.specs.Classes.{class_lines}
use Rattle.volume_classes.proofs.writing.add_sets.Given as goal

abbrev pub invariant-loop-place : goal.invariant-loop-place
invariant-loop-place l = l.text ≡ l.fn.text ++ class_lines (take l.place l.numbers) (take l.place l.sets)
