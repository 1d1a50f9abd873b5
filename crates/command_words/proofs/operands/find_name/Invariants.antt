use Rattle.std.proofs.Common.{◌≡◌, ◌≢◌, All, take}
use Rattle.command_words.specs.Operands.{name_text, operands_of}
use Rattle.command_words.proofs.operands.find_name.Given as goal

abbrev pub invariant-loop-name : goal.invariant-loop-name
invariant-loop-name l = (l.name-items ≡ operands_of l.fn.verb) × All (λ name. l.text ≢ name_text name) (take l.name-index l.name-items)
