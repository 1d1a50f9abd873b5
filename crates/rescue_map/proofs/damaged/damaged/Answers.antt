use Rattle.std.proofs.Common.{arith}
use Rattle.std.proofs.lemmas.Grind.{common_steps}
use Rattle.rescue_map.specs.Damaged.{damaged}
use Rattle.rescue_map.proofs.damaged.damaged.Goals as goal

pub returns : goal.returns
unfolding damaged
returns c = grind (arith, common_steps)
