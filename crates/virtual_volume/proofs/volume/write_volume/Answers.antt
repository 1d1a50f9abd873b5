use Rattle.std.proofs.Common.{◌+◌, ◌*◌}
use Rattle.outside.specs.Attached.{told_all}
use Rattle.raid_terms.specs.Volume.{volume}
use Rattle.member_regions.specs.declared.regions.TheConstants.{BLOCK}
use Rattle.raid_params.specs.Size.{data_blocks}
use Rattle.virtual_volume.specs.Gained.{most_ahead}
use Rattle.virtual_volume.proofs.Ahead.{ahead_most, few_ahead}
use Rattle.virtual_volume.proofs.Fronts.{none_front}
use Rattle.virtual_volume.proofs.volume.write_volume.Goals as goal

pub returns-in_err-pending-clause-front : goal.returns-in_err-pending-clause-front
returns-in_err-pending-clause-front g c =
    none_front (told_all (g.I.Images.seen c.args.images.now).attached) (λ bytes. volume bytes c.args.geo.now c.args.end) (g.K.Sink.gained c.args.sink.now) c.from_residual-in_err-pending.result

pub returns-clause-ahead : goal.returns-clause-ahead
returns-clause-ahead g c =
    ahead_most (told_all (g.I.Images.seen c.args.images.now).attached) (data_blocks c.args.geo.now.head * (c.batch_rows-batch.result * c.args.geo.now.head.chunk) + BLOCK) (most_ahead c.args.geo.now.head) (g.I.Images.seen c.args.images.now).sectors_read _
    (g.K.Sink.gained c.args.sink.now) _ (few_ahead (data_blocks c.args.geo.now.head) c.batch_rows-batch.result c.args.geo.now.head.chunk BLOCK c.batch_rows-batch.ensures.short) c.write_all.ensures.ahead
