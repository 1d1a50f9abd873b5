use Rattle.std.proofs.Common.{take}
use Rattle.slot_math.proofs.Blocks.{StandsFrom}
use Rattle.slot_math.proofs.space.Space.rank.Given as goal

abbrev pub invariant-loop-at : goal.invariant-loop-at
invariant-loop-at l = StandsFrom l.self (take l.at l.list) l.rank
