use Rattle.virtual_volume.proofs.Sets.{served_head}
use Rattle.volume_device.proofs.parity.ParityDeviceBlockDevice.sectors.Goals as goal

pub volume_sectors-requires-clause-head : goal.volume_sectors-requires-clause-head
volume_sectors-requires-clause-head g c =
    served_head c.args.self.now.geo.now c.args.self.now.end (g.I.Images.seen c.args.self.now.images.now).attached c.args.self.now.can.set
