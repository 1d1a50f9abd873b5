use Rattle.std.proofs.Common.{◌≡◌, take}
use Rattle.std.specs.List.{fold}
use Rattle.std.specs.Prelude.{bit_or}
use Rattle.relation_lines.proofs.report.union_of.Given as goal

abbrev pub invariant-loop-set : goal.invariant-loop-set
invariant-loop-set l = l.union ≡ fold bit_or 0 (take l.set-index l.sets)
