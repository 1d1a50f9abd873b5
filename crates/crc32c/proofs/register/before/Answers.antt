use Rattle.std.proofs.Common.{◌≡◌, ◌<◌, ◌+◌, ◌-◌, ◌∙◌, sym, ap, arith, length, get_or, bit_xor}
use Rattle.crc32c.specs.Register.{unshifts}
use Rattle.crc32c.proofs.Registers.{before_step, before_end}
use Rattle.crc32c.proofs.register.before.Goals as goal

pub loop-left-init : goal.loop-left-init
loop-left-init c = record {
  within = omega arith;
  so_far = sym (before_end c.args.register c.args.bytes.now);
}

pub loop-left-preserved : goal.loop-left-preserved
loop-left-preserved c =
    let from : c.loop-left.left ≡ c.loop-left.left - 1 + 1 = omega arith in
    let below : c.loop-left.left - 1 < length c.args.bytes.now = omega arith in
    record {
      within = omega arith;
      so_far =
          ap (λ z. bit_xor z (get_or c.args.bytes.now (c.loop-left.left - 1) 0)) (c.backward.ensures ∙ ap (unshifts 8) c.loop-left.invariant.so_far)
          ∙ before_step c.args.register c.args.bytes.now (c.loop-left.left - 1) c.loop-left.left from below;
    }
