use Rattle.std.proofs.Common.{◌∙◌}
use Rattle.head_walk.proofs.Shapes.{asks_by_shape}
use Rattle.head_walk.proofs.asking.asks_tables.Goals as goal

pub returns : goal.returns
returns c = c.levels_ask.ensures ∙ asks_by_shape c.args.plan.now c.requires
