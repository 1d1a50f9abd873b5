use Rattle.std.proofs.Common.{◌/◌, length, arith}
use Rattle.outside.specs.Attached.{told_all}
use Rattle.damaged_mirror.proofs.Told.{device_told}
use Rattle.damaged_mirror.proofs.device.DamagedMirrorBlockDevice.read.Goals as goal

pub returns-clause-told : goal.returns-clause-told
returns-clause-told g c =
    let d = c.args.self.now in
    device_told (told_all (g.I.Images.seen d.images.now).attached) d.damage.now.rescue.now d.damage.now.set.now d.damage.now.end c.args.first (length c.args.to.now / 512) (length c.args.to.now) c.read_damaged.result c.read_damaged.new.to
    (omega arith) c.requires.inside c.read_damaged.ensures.told
