-- Answers for the turn of a row.
use Rattle.std.proofs.Common.{arith}
use Rattle.raid_layouts.proofs.Levels.{some_delay}
use Rattle.raid_layouts.proofs.roles.turn.Goals as goal

pub nonzero_div-result : goal.nonzero_div-result
nonzero_div-result c = let some = some_delay c.args.head.now c.requires in omega arith
