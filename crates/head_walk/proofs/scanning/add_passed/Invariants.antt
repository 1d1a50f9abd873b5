use Rattle.head_walk.proofs.Passed.{Adds}
use Rattle.head_walk.proofs.scanning.add_passed.Given as goal

abbrev pub invariant-loop-k : goal.invariant-loop-k
invariant-loop-k l = Adds l.size l.waiting l.k l.fn.lines l.lines
