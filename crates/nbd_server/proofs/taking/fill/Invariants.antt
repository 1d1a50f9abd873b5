use Rattle.nbd_server.proofs.Pieces.{FilledSoFar}
use Rattle.nbd_server.proofs.taking.fill.Given as goal

abbrev pub invariant-loop : goal.invariant-loop
invariant-loop g l = FilledSoFar (g.S.Source.left l.fn.source) (g.S.Source.left l.source) (g.S.Source.faults l.fn.source) (g.S.Source.faults l.source) l.counter l.filled l.to
