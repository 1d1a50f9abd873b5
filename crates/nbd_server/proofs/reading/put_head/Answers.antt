use Rattle.std.proofs.Common.{◌-◌, length, arith}
use Rattle.nbd_server.proofs.Parts.{headed}
use Rattle.nbd_server.proofs.reading.put_head.Goals as goal

pub returns : goal.returns
returns c = λ count within.
    let a = c.args.at - length c.args.head.now in
    rw c.copy_from_slice.ensures.after (headed c.args.at a (c.args.at - a) count c.args.room.now c.args.head.now (omega arith) (omega arith) within)
