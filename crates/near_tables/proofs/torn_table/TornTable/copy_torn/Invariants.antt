use Rattle.std.proofs.Common.{◌≡◌, ◌≤◌, ◌*◌, ◌^◌}
use Rattle.std.specs.List.{range_with_len, sum_by}
use Rattle.near_tables.specs.Tables.{pairs_torn}
use Rattle.near_tables.proofs.torn_table.TornTable.copy_torn.Given as goal

abbrev pub invariant-loop-first : goal.invariant-loop-first
invariant-loop-first l = record {
  is : l.torn ≡ sum_by (pairs_torn l.self l.head l.slots l.second) (range_with_len 0 l.first);
  few : l.torn ≤ l.first * (24 * 2 ^ 64);
}
