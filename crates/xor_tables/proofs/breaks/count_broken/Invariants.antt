use Rattle.std.proofs.Common.{◌≡◌, ◌+◌, ◌-◌, ◌^◌, min}
use Rattle.std.specs.List.{range_with_len, sum_by}
use Rattle.xor_tables.specs.Heads.{broken_at}
use Rattle.xor_tables.proofs.breaks.count_broken.Given as goal

abbrev pub invariant-loop-slot : goal.invariant-loop-slot
invariant-loop-slot l = l.sum ≡ min (l.always + sum_by (broken_at l.placed l.prefix) (range_with_len 0 l.slot)) (2 ^ 64 - 1)
