use Rattle.std.proofs.Common.{◌≡◌, take}
use Rattle.command_words.proofs.building.list_of.Given as goal

abbrev pub invariant-loop-value : goal.invariant-loop-value
invariant-loop-value g l = l.list.items ≡ take l.value-index l.values
