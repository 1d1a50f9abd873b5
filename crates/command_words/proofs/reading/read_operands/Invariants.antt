use Rattle.std.proofs.Common.{◌≡◌, map, take}
use Rattle.command_words.specs.Operands.{AreOperands, operand_word}
use Rattle.command_words.proofs.Refusals.{CanGoOn}
use Rattle.command_words.proofs.reading.read_operands.Given as goal

abbrev pub invariant-loop-place : goal.invariant-loop-place
invariant-loop-place l = (take l.place l.words ≡ map operand_word l.operands.items) × AreOperands l.fn.verb l.operands.items × CanGoOn l.operands.items
