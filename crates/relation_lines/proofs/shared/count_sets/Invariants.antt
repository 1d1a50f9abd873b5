use Rattle.std.proofs.Common.{◌≡◌, ◌≤◌, ◌+◌, ◌++◌, length, drop}
use Rattle.std.specs.Vec.{vec_capacity}
use Rattle.relation_lines.specs.Shared.{counted, counted_from}
use Rattle.relation_lines.proofs.shared.count_sets.Given as goal

abbrev pub invariant-loop-other : goal.invariant-loop-other
invariant-loop-other l =
    (l.shares.items ++ counted_from l.rows l.set (drop l.other-index l.rest) ≡ counted l.sets)
    × (l.rows ≤ l.other-index + 1) × (length l.shares.items ≤ l.other-index) × (length l.rest + 1 ≤ vec_capacity l.shares) × (length l.rest ≤ length l.sets)
