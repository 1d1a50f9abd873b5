use Rattle.std.proofs.Common.{◌≡◌, drop}
use Rattle.crc32c.specs.Register.{register_after}
use Rattle.crc32c.proofs.register.after.Given as goal

abbrev pub invariant-loop-byte : goal.invariant-loop-byte
invariant-loop-byte l = register_after l.now (drop l.byte-index l.bytes) ≡ register_after l.register l.bytes
