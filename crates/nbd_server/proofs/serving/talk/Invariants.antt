use Rattle.nbd_server.specs.Turns.{wire}
use Rattle.nbd_server.proofs.Reached.{Going}
use Rattle.nbd_server.proofs.serving.talk.Given as goal

abbrev pub invariant-loop : goal.invariant-loop
invariant-loop g l =
    Going g.D.BlockDevice.reads (g.D.BlockDevice.content l.fn.device) (g.D.BlockDevice.content l.device) (g.D.BlockDevice.size l.fn.device) (g.D.BlockDevice.size l.device) (g.D.BlockDevice.fixed l.fn.device) (g.D.BlockDevice.fixed l.device)
    (wire (g.S.Source.left l.fn.source) (g.K.Sink.gained l.fn.out) l.fn.device) (wire (g.S.Source.left l.source) (g.K.Sink.gained l.out) l.device)
    (g.D.BlockDevice.faults l.fn.device) (g.D.BlockDevice.faults l.device)
    (g.S.Source.faults l.fn.source) (g.S.Source.faults l.source) (g.K.Sink.faults l.fn.out) (g.K.Sink.faults l.out) l.phase l.counter
