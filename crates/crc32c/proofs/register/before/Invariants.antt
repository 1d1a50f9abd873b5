use Rattle.std.proofs.Common.{◌≡◌, ◌≤◌, drop, length}
use Rattle.crc32c.specs.Register.{register_before}
use Rattle.crc32c.proofs.register.before.Given as goal

abbrev pub invariant-loop-left : goal.invariant-loop-left
invariant-loop-left l = record {
  within : l.left ≤ length l.bytes;
  so_far : l.now ≡ register_before l.register (drop l.left l.bytes);
}

abbrev pub decreases-loop-left : goal.decreases-loop-left
decreases-loop-left l = l.left
