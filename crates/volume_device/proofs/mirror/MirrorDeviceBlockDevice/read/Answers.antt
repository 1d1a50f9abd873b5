use Rattle.std.proofs.Common.{◌/◌, length, arith}
use Rattle.outside.specs.Attached.{told_all}
use Rattle.volume_device.proofs.Counted.{costs}
use Rattle.volume_device.proofs.Told.{near_told}
use Rattle.volume_device.proofs.mirror.MirrorDeviceBlockDevice.read.Goals as goal

pub returns-clause-told : goal.returns-clause-told
returns-clause-told g c =
    near_told (told_all (g.I.Images.seen c.args.self.now.images.now).attached) c.args.self.now.set.now c.args.self.now.end c.args.first (length c.args.to.now / 512) (length c.args.to.now) c.read_near.result c.read_near.new.to
    (omega arith) c.requires.inside c.read_near.ensures.told

pub returns-clause-reads : goal.returns-clause-reads
returns-clause-reads g c =
    costs (length c.args.to.now / 512) (g.I.Images.seen c.args.self.now.images.now) (g.I.Images.seen c.read_near.new.images) c.read_near.result c.read_near.ensures.reads c.read_near.ensures.cause
