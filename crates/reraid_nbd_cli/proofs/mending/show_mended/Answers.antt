use Rattle.damaged_mirror.specs.Damaged.{mended_cost}
use Rattle.damaged_mirror.specs.Lengths.{mended_told}
use Rattle.near_mirror.specs.Copies.{near_sectors}
use Rattle.outside.specs.Attached.{told_all}
use Rattle.run_ends.specs.Jobs.{named}
use Rattle.reraid_nbd_cli.specs.Mapped.{damaged_mirror}
use Rattle.reraid_nbd_cli.proofs.Mapped.{ready_shown, unready_shown}
use Rattle.reraid_nbd_cli.proofs.Mended.{by_copies}
use Rattle.reraid_nbd_cli.proofs.mending.show_mended.Goals as goal

pub show_good_copies-requires : goal.show_good_copies-requires
show_good_copies-requires g c = c.in-Ok.ensures.ready.mirrored

pub returns-in-Ok : goal.returns-in-Ok
returns-in-Ok g c =
    let set = c.args.set.now in
    let given = named c.args.names (g.I.Images.seen c.args.images.now).attached in
    let ready = c.in-Ok.ready in
    ready_shown (damaged_mirror set c.args.end given) (near_sectors set.head ready.end) (mended_told (told_all given.attached) ready.rescue set ready.end) (mended_cost ready.rescue set ready.end)
    _ _ _ _ ready c.show_good_copies.result c.in-Ok.ensures.early c.prepare_mirror.ensures.takes c.in-Ok.ensures.faults c.show_good_copies.ensures
    (by_copies set c.args.end given _ ready _ _ c.show_good_copies.result c.in-Ok.ensures.ready c.show_good_copies.ensures.ends)

pub returns-in-Err : goal.returns-in-Err
returns-in-Err g c =
    let given = named c.args.names (g.I.Images.seen c.args.images.now).attached in
    rw c.end_of_stop.ensures (unready_shown (damaged_mirror c.args.set.now c.args.end given) _ _ _ c.in-Err.stop c.in-Err.ensures.unready c.in-Err.ensures.early c.prepare_mirror.ensures.takes c.in-Err.ensures.faults)
