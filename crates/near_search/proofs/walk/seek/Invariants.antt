use Rattle.std.proofs.Common.{◌≡◌, ◌+◌, ◌<◌, ◌≤◌}
use Rattle.near_search.specs.Walk.{count_at, first_at}
use Rattle.near_search.proofs.walk.seek.Given as goal

abbrev pub invariant-loop-at : goal.invariant-loop-at
invariant-loop-at l = record {
  first : l.start ≡ first_at l.many l.ask l.at;
  low : l.start ≤ l.rank;
  later : l.place < l.at → l.first + count_at l.many l.ask l.place ≤ l.start;
}
