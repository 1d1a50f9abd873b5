use Rattle.std.proofs.Common.{◌≡◌, ◌≤◌, ◌==◌, not, length, take}
use Rattle.std.specs.List.{filter, fold}
use Rattle.std.specs.Prelude.{bit_and, bit_or}
use Rattle.relation_lines.proofs.sets.join.Given as goal

abbrev pub invariant-loop-part : goal.invariant-loop-part
invariant-loop-part l =
    (l.others.items ≡ filter (λ part. bit_and part l.tie == 0) (take l.part-index l.parts))
    × (l.joined ≡ fold bit_or l.tie (filter (λ part. not (bit_and part l.tie == 0)) (take l.part-index l.parts)))
    × (length l.others.items ≤ l.part-index)
