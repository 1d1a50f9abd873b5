use Rattle.std.proofs.Common.{◌≡◌, ◌^◌, min}
use Rattle.near_search.specs.Walk.{first_at}
use Rattle.near_search.proofs.ask.NearAsk.count_sets.Given as goal

abbrev pub invariant-loop-place : goal.invariant-loop-place
invariant-loop-place l = l.sum ≡ min (first_at l.images l.self l.place) (2 ^ 64)
