use Rattle.std.proofs.Common.{◌≡◌, fold, take}
use Rattle.gpt_marks.specs.Crc.{byte_step}
use Rattle.gpt_marks.proofs.crc.crc32.Given as goal

abbrev pub invariant-loop-byte : goal.invariant-loop-byte
invariant-loop-byte l = l.register ≡ fold byte_step 0xFFFFFFFF (take l.byte-index l.bytes)
