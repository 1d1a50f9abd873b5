use Rattle.std.proofs.Common.{◌≡◌, ◌+◌, ◌<◌, ◌^◌, length, All}
use Rattle.search_rows.proofs.many_sets.some_sets.Given as goal

abbrev pub invariant-loop-k : goal.invariant-loop-k
invariant-loop-k l = record {
  long : length l.sets.items + l.first ≡ l.k;
  near : All (λ geo. geo.head.offset < 2 ^ 55) l.sets.items;
}
