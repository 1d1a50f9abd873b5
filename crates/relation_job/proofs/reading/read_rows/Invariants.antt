use Rattle.relation_job.proofs.BlockBytes.{ReadsRows}
use Rattle.relation_job.proofs.reading.read_rows.Given as goal

abbrev pub invariant-loop-image : goal.invariant-loop-image
invariant-loop-image g l = ReadsRows (g.I.Images.seen l.fn.images) (g.I.Images.seen l.images) l.offsets l.row l.rows l.image l.to
