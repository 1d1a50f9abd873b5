use Rattle.address_map.proofs.Heads.{some_chunk}
use Rattle.raid_layouts.proofs.Shapes.{shaped_head}
use Rattle.plan_jobs.proofs.reporting.report.Goals as goal

pub tested_rows-tested-requires : goal.tested_rows-tested-requires
tested_rows-tested-requires c =
    let shaped = c.requires.set.shaped in
    record { chunk = some_chunk c.args.set.now.head (shaped_head c.args.set.now shaped.0 shaped.1) }
