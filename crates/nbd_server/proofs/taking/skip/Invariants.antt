use Rattle.nbd_server.proofs.Pieces.{SkippedSoFar}
use Rattle.nbd_server.proofs.taking.skip.Given as goal

abbrev pub invariant-loop : goal.invariant-loop
invariant-loop g l = SkippedSoFar l.asked (g.S.Source.left l.fn.source) (g.S.Source.left l.source) (g.S.Source.faults l.fn.source) (g.S.Source.faults l.source) l.counter l.taken
