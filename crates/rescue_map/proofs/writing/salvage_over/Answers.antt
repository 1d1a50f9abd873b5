use Rattle.std.proofs.Common.{rules}
use Rattle.outside.specs.Attached.{told_all}
use Rattle.member_regions.proofs.Sets.{testable_head}
use Rattle.raid_params.specs.Size.{volume_sectors}
use Rattle.rescue_map.proofs.ReadAhead.{salvages_none}
use Rattle.rescue_map.proofs.writing.salvage_over.Goals as goal

pub returns-in_err-block : goal.returns-in_err-block
returns-in_err-block g c =
    let damage = c.args.damage.now in
    salvages_none (told_all (g.I.Images.seen c.args.images.now).attached) damage.rescue.now damage.set.now (volume_sectors damage.set.now.geo.head damage.end) (g.I.Images.seen c.args.images.now)
    (g.K.Sink.gained c.args.sink.now) (g.K.Sink.faults c.args.sink.now) c.from_residual.result (search rules)

pub returns-in_err-rows : goal.returns-in_err-rows
returns-in_err-rows g c =
    let damage = c.args.damage.now in
    salvages_none (told_all (g.I.Images.seen c.args.images.now).attached) damage.rescue.now damage.set.now (volume_sectors damage.set.now.geo.head damage.end) (g.I.Images.seen c.args.images.now)
    (g.K.Sink.gained c.args.sink.now) (g.K.Sink.faults c.args.sink.now) c.from_residual-in_err-rows.result (search rules)

pub volume_sectors-sectors-requires-clause-head : goal.volume_sectors-sectors-requires-clause-head
volume_sectors-sectors-requires-clause-head g c = testable_head c.args.damage.now.set.now.geo c.requires.set.mendable.shape
