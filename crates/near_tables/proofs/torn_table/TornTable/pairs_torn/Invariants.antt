use Rattle.std.proofs.Common.{◌≡◌, ◌≤◌, ◌*◌, ◌^◌}
use Rattle.std.specs.List.{range_with_len, sum_by}
use Rattle.near_tables.specs.Tables.{pair_torn}
use Rattle.near_tables.proofs.torn_table.TornTable.pairs_torn.Given as goal

abbrev pub invariant-loop-chunk : goal.invariant-loop-chunk
invariant-loop-chunk l = record {
  is : l.torn ≡ sum_by (pair_torn l.self l.head l.slots l.first l.second) (range_with_len 0 l.chunk);
  few : l.torn ≤ l.chunk * 2 ^ 64;
}
