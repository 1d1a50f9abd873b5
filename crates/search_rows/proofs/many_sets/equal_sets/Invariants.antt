use Rattle.std.proofs.Common.{◌≡◌, ◌<◌, ◌^◌, length, All}
use Rattle.search_rows.proofs.many_sets.equal_sets.Given as goal

abbrev pub invariant-loop : goal.invariant-loop
invariant-loop l = record {
  long : length l.sets.items ≡ l.counter;
  near : All (λ geo. geo.head.offset < 2 ^ 55) l.sets.items;
}
