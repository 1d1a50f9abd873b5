use Rattle.std.proofs.Common.{arith}
use Rattle.near_mirror.proofs.Heads.{volume_fits}
use Rattle.damaged_mirror.proofs.good.taken_run.Goals as goal

pub overflow_add-first : goal.overflow_add-first
overflow_add-first c =
    let fits = volume_fits c.args.damage.now.set.now.head c.args.damage.now.end c.requires.set.head c.requires.end in
    let within = c.requires.within in
    let less = c.loop-count-test.true in
    omega arith
