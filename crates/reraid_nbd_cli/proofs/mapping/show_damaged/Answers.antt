use Rattle.damaged_device.specs.Cost.{damaged_cost}
use Rattle.damaged_device.specs.Lengths.{salvaged_told}
use Rattle.raid_params.specs.Size.{volume_sectors}
use Rattle.set_jobs.specs.Writing.{told_for}
use Rattle.run_ends.specs.Jobs.{named}
use Rattle.reraid_nbd_cli.specs.Mapped.{damaged_set}
use Rattle.reraid_nbd_cli.proofs.Mapped.{by_set, ready_shown, unready_shown}
use Rattle.reraid_nbd_cli.proofs.mapping.show_damaged.Goals as goal

pub returns-in-Ok : goal.returns-in-Ok
returns-in-Ok g c =
    let set = c.args.set.now in
    let attached = (g.I.Images.seen c.args.images.now).attached in
    let ready = c.in-Ok.ready in
    ready_shown (damaged_set set c.args.end (named c.args.names attached)) (volume_sectors set.geo.head ready.end) (salvaged_told (told_for set attached) ready.rescue set ready.end) (damaged_cost ready.rescue set)
    _ _ _ _ ready c.show_ready.result c.in-Ok.ensures.early c.prepare.ensures.takes c.in-Ok.ensures.faults c.show_ready.ensures
    (by_set set c.args.end c.args.names attached _ ready _ _ c.show_ready.result c.in-Ok.ensures.ready c.show_ready.ensures.ends)

pub returns-in-Err : goal.returns-in-Err
returns-in-Err g c =
    let attached = (g.I.Images.seen c.args.images.now).attached in
    rw c.end_of_stop.ensures (unready_shown (damaged_set c.args.set.now c.args.end (named c.args.names attached)) _ _ _ c.in-Err.stop c.in-Err.ensures.unready c.in-Err.ensures.early c.prepare.ensures.takes c.in-Err.ensures.faults)
