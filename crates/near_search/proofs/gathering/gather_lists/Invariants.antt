use Rattle.std.proofs.Common.{ℕ, ◌≡◌, ◌<◌, ◌++◌, List, map, length, All}
use Rattle.candidate_enum.specs.Survivors.{survivors}
use Rattle.candidate_enum.specs.declared.leaf.Leaf.{Leaf}
use Rattle.near_search.specs.Walk.{HoldsNear, IsHeadSets}
use Rattle.near_search.specs.declared.ask.NearAsk.{NearAsk}
use Rattle.near_search.proofs.Leafwise.{asked, line_of}
use Rattle.near_search.specs.Hopeful.{is_near_admitted}
use Rattle.near_search.proofs.gathering.gather_lists.Given as goal

abbrev pub invariant-loop-leaf : goal.invariant-loop-leaf
invariant-loop-leaf l = record {
  goes : goal.iterator-loop-leaf.can_next l.walk × goal.iterator-loop-leaf.is_finite l.walk;
  given : List Leaf;
  whole : survivors (asked l.sets (is_near_admitted l.family) l.from l.to) ≡ given ++ l.walk.leaves;
  lines : l.page ≡ l.fn.page ++ map (line_of l.sets) given;
  few : length l.page < l.size;
  holds : (images : ℕ) (ask : NearAsk) → IsHeadSets images ask l.sets → All (HoldsNear images ask) l.fn.page → All (HoldsNear images ask) l.page;
}
