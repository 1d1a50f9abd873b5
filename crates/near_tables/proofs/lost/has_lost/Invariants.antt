use Rattle.std.proofs.Common.{◌≡◌, ◌<◌, ℕ, false}
use Rattle.near_tables.specs.Torn.{is_lost, with_slots}
use Rattle.near_tables.proofs.lost.has_lost.Given as goal

abbrev pub invariant-loop-chunk : goal.invariant-loop-chunk
invariant-loop-chunk l = (x : ℕ) → x < l.chunk → is_lost (with_slots l.head l.slots) x ≡ false
