use Rattle.std.proofs.Common.{◌≡◌, ◌-◌, ◌^◌, ℕ, List, Option, length, min}
use Rattle.std.specs.List.{range_with_len, sum_by}
use Rattle.raid_params.specs.declared.limits.TheConstants.{MOST}
use Rattle.slot_math.specs.Ways.{AllImages}
use Rattle.xor_tables.specs.Heads.{broken_by}
use Rattle.xor_tables.specs.Xors.{beside_q}
use Rattle.xor_tables.proofs.row_tally.RowTally.placed_on_q.Given as goal

abbrev pub invariant-loop-turn : goal.invariant-loop-turn
invariant-loop-turn l = record {
  long : length l.placed ≡ MOST;
  sum : (prefix : List (Option ℕ)) → AllImages MOST prefix → min (broken_by l.placed prefix) (2 ^ 64 - 1) ≡ min (sum_by (beside_q l.self l.head prefix) (range_with_len 0 l.turn)) (2 ^ 64 - 1);
}
