use Rattle.raid_layouts.proofs.Shapes.{shaped_head}
use Rattle.landmark_rules.proofs.counting.sector_of.Goals as goal

pub sector_in-requires-clause-head : goal.sector_in-requires-clause-head
sector_in-requires-clause-head c = shaped_head c.args.geo.now c.requires.shaped.0 c.requires.shaped.1
