use Rattle.std.proofs.Common.{◌≡◌, ◌+◌, ◌*◌, ℕ, ap, arith}
use Rattle.volume_classes.specs.Stretches.{turn_end}
use Rattle.volume_classes.proofs.Turns.{short_delay, soon}
use Rattle.volume_classes.proofs.stretches.turn_end.Goals as goal

pub overflow_mul-result : goal.overflow_mul-result
overflow_mul-result c =
    let same : (c.turn.result + 1) * c.args.head.now.delay ≡ turn_end c.args.head.now c.args.row = ap (λ (t : ℕ). (t + 1) * c.args.head.now.delay) c.turn.ensures in
    let near = soon c.args.head.now c.args.row in
    let few = short_delay c.args.head.now c.requires.head in
    omega arith
