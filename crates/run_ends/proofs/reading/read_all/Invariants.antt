use Rattle.run_ends.proofs.Taking.{ReadSoFar}
use Rattle.run_ends.proofs.reading.read_all.Given as goal

abbrev pub invariant-loop : goal.invariant-loop
invariant-loop g l = ReadSoFar l.most (g.S.Source.left l.fn.source) (g.S.Source.left l.source) (g.S.Source.faults l.fn.source) (g.S.Source.faults l.source) l.counter l.text.items
