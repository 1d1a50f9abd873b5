use Rattle.std.proofs.Common.{◌≡◌, ℕ, ◌<◌, get_or}
use Rattle.xor_tables.proofs.breaks.are_nothing.Given as goal

abbrev pub invariant-loop-image : goal.invariant-loop-image
invariant-loop-image l = (i : ℕ) → i < l.image → get_or l.counts i 0 ≡ 0
