use Rattle.std.proofs.Common.{◌+◌, arith}
use Rattle.virtual_volume.proofs.Puts.{home_data}
use Rattle.virtual_volume.proofs.Sets.{home_near, served_held, served_testable}
use Rattle.virtual_volume.proofs.sector.read_volume.Goals as goal

pub read_sector-requires-clause-held : goal.read_sector-requires-clause-held
read_sector-requires-clause-held g c =
    let at = c.in-Some.ensures in
    let near = home_near c.args.geo.now c.args.end c.args.sector (g.I.Images.seen c.args.images.now).attached c.in-Some.home.slot c.in-Some.home.sector c.requires.set at.lies c.requires.sector in
    served_held c.args.geo.now c.args.end (c.args.geo.now.head.offset + (c.in-Some.home.sector + 1)) (g.I.Images.seen c.args.images.now).attached c.requires.set near

pub read_sector-requires-clause-near : goal.read_sector-requires-clause-near
read_sector-requires-clause-near g c =
    let at = c.in-Some.ensures in
    let near = home_near c.args.geo.now c.args.end c.args.sector (g.I.Images.seen c.args.images.now).attached c.in-Some.home.slot c.in-Some.home.sector c.requires.set at.lies c.requires.sector in
    let far = c.requires.set.near in
    omega arith

pub read_sector-requires-clause-data : goal.read_sector-requires-clause-data
read_sector-requires-clause-data g c =
    home_data c.args.geo.now c.in-Some.home.slot c.in-Some.home.sector c.args.sector (served_testable c.args.geo.now c.args.end (g.I.Images.seen c.args.images.now).attached c.requires.set) c.in-Some.ensures.lies
