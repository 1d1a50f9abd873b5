use Rattle.std.proofs.Common.{◌/◌, length, refl, arith}
use Rattle.outside.specs.Attached.{told_all}
use Rattle.volume_device.specs.Cost.{range_cost}
use Rattle.volume_device.proofs.Counted.{costs}
use Rattle.volume_device.proofs.Told.{device_told}
use Rattle.volume_device.proofs.parity.ParityDeviceBlockDevice.read.Goals as goal

pub returns-clause-told : goal.returns-clause-told
returns-clause-told g c =
    device_told (told_all (g.I.Images.seen c.args.self.now.images.now).attached) c.args.self.now.geo.now c.args.self.now.end c.args.first (length c.args.to.now / 512) (length c.args.to.now) c.read_range.result c.read_range.new.to
    (omega arith) c.requires.inside c.read_range.ensures.told

pub returns-clause-reads : goal.returns-clause-reads
returns-clause-reads g c = (
  costs (range_cost c.args.self.now.geo.now c.args.first (length c.args.to.now / 512)) (g.I.Images.seen c.args.self.now.images.now) (g.I.Images.seen c.read_range.new.images) c.read_range.result c.read_range.ensures.read.reads c.read_range.ensures.cause,
  refl,
  refl,
)
