use Rattle.std.proofs.Common.{◌≡◌, ◌-◌, ◌^◌, min}
use Rattle.std.specs.List.{range_with_len, sum_by}
use Rattle.xor_tables.specs.Xors.{beside_q}
use Rattle.xor_tables.proofs.row_tally.RowTally.sum_beside_q.Given as goal

abbrev pub invariant-loop-turn : goal.invariant-loop-turn
invariant-loop-turn l = l.sum ≡ min (sum_by (beside_q l.self l.head l.prefix) (range_with_len 0 l.turn)) (2 ^ 64 - 1)
