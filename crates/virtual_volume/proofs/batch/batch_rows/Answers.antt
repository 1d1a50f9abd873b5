use Rattle.std.proofs.Common.{arith}
use Rattle.address_map.proofs.Heads.{some_chunk}
use Rattle.virtual_volume.proofs.Places.{short_batch}
use Rattle.virtual_volume.proofs.batch.batch_rows.Goals as goal

pub nonzero_div-head : goal.nonzero_div-head
nonzero_div-head c = some_chunk c.args.head.now c.requires

pub returns-clause-short : goal.returns-clause-short
returns-clause-short c =
    short_batch c.args.head.now.chunk c.max.result (some_chunk c.args.head.now c.requires) (omega (arith, c.max.ensures))
