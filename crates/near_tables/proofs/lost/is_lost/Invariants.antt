use Rattle.std.proofs.Common.{◌≡◌, ◌<◌, ℕ, true, slice_get}
use Rattle.near_mirror.specs.Copies.{slot_of}
use Rattle.near_tables.specs.Torn.{is_gone}
use Rattle.near_tables.proofs.lost.is_lost.Given as goal

abbrev pub invariant-loop-copy : goal.invariant-loop-copy
invariant-loop-copy l = (x : ℕ) → x < l.copy → is_gone (slice_get l.slots (slot_of l.head.layout.copying l.head.members l.head.layout.copies x l.chunk)) ≡ true
