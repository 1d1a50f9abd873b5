use Rattle.xor_tables.specs.Heads.{AreBrokenFrom}
use Rattle.xor_tables.proofs.breaks.first_broken.Given as goal

abbrev pub invariant-loop-slot : goal.invariant-loop-slot
invariant-loop-slot l = AreBrokenFrom l.slot l.placed
