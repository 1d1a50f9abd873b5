use Rattle.virtual_volume.proofs.Sets.{served_head}
use Rattle.damaged_device.proofs.device.DamagedDeviceBlockDevice.sectors.Goals as goal

pub volume_sectors-requires-clause-head : goal.volume_sectors-requires-clause-head
volume_sectors-requires-clause-head g c =
    let d = c.args.self.now in
    served_head d.damage.now.set.now.geo d.damage.now.end (g.I.Images.seen d.images.now).attached d.can.can.set
