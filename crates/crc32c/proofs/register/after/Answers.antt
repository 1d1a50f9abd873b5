use Rattle.std.proofs.Common.{◌≡◌, ◌<◌, ◌∙◌, sym, ap, arith, length, drop}
use Rattle.crc32c.specs.Register.{register_after}
use Rattle.crc32c.proofs.Registers.{after_step, after_end}
use Rattle.crc32c.proofs.register.after.Goals as goal

pub loop-byte-preserved : goal.loop-byte-preserved
loop-byte-preserved c =
    let below : c.loop-byte.byte-index < length c.args.bytes.now = omega arith in
    rw c.forward-now.ensures
    (after_step c.loop-byte.now c.args.bytes.now c.loop-byte.byte-index below ∙ c.loop-byte.invariant)

pub returns : goal.returns
returns c =
    let over : length c.args.bytes.now ≡ c.loop-byte.byte-index = omega arith in
    sym (after_end c.loop-byte.now c.args.bytes.now) ∙ ap (λ k. register_after c.loop-byte.now (drop k c.args.bytes.now)) over
    ∙ c.loop-byte.invariant
