use Rattle.std.proofs.Common.{◌≡◌, ◌++◌, map, take}
use Rattle.std.specs.List.{flat_map}
use Rattle.value_text.specs.Spelling.{line}
use Rattle.plan_text.proofs.ImageLines.{length_line}
use Rattle.plan_text.proofs.writer.add_images.Given as goal

abbrev pub invariant-loop-length : goal.invariant-loop-length
invariant-loop-length l = l.text ≡ l.initial.text ++ flat_map line (map length_line (take l.length-index l.lengths))
