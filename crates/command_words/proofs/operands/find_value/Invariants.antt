use Rattle.std.proofs.Common.{◌≡◌, drop}
use Rattle.command_words.specs.Operands.{value_of}
use Rattle.command_words.proofs.operands.find_value.Given as goal

abbrev pub invariant-loop-operand : goal.invariant-loop-operand
invariant-loop-operand l = value_of l.name l.operands ≡ value_of l.name (drop l.operand-index l.operands)
