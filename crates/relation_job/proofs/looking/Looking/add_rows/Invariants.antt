use Rattle.std.proofs.Common.{◌-◌}
use Rattle.relation_job.proofs.Looked.{LooksSoFar}
use Rattle.relation_job.proofs.looking.Looking.add_rows.Given as goal

abbrev pub invariant-loop-first : goal.invariant-loop-first
invariant-loop-first g l =
    LooksSoFar l.offsets l.sampling l.first (g.I.Images.seen l.fn.images) (g.I.Images.seen l.images) (g.K.Sink.gained l.fn.out) (g.K.Sink.gained l.out) (g.K.Sink.faults l.fn.out) (g.K.Sink.faults l.out) l.fn.self.report l.self.report
    l.self.sectors.items l.self.table

abbrev pub decreases-loop-first : goal.decreases-loop-first
decreases-loop-first g l = l.sampling.rows - l.first
