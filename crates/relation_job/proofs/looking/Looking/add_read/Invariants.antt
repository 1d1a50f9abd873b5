use Rattle.std.proofs.Common.{length}
use Rattle.relation_job.proofs.Parts.{TakesSoFar}
use Rattle.relation_job.proofs.looking.Looking.add_read.Given as goal

abbrev pub invariant-loop-place : goal.invariant-loop-place
invariant-loop-place g l =
    TakesSoFar l.block l.part l.place (g.K.Sink.gained l.fn.out) (g.K.Sink.gained l.out) (g.K.Sink.faults l.fn.out) (g.K.Sink.faults l.out) l.fn.self.report l.self.report l.self.sectors.items l.self.table (length l.fn.self.sectors.items)
