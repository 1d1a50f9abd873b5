use Rattle.std.proofs.Common.{◌≡◌, ◌≤◌, ◌*◌, ◌^◌}
use Rattle.std.specs.List.{range_with_len, sum_by}
use Rattle.near_tables.specs.Tables.{copy_torn}
use Rattle.near_tables.proofs.torn_table.TornTable.torn.Given as goal

abbrev pub invariant-loop-second : goal.invariant-loop-second
invariant-loop-second l = record {
  is : l.torn ≡ sum_by (copy_torn l.self l.head l.slots) (range_with_len 0 l.second);
  few : l.torn ≤ l.second * (96 * 2 ^ 64);
}
