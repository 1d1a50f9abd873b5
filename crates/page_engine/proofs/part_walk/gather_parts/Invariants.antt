use Rattle.std.proofs.Common.{◌≡◌, ◌-◌}
use Rattle.outside.specs.Attached.{told_all}
use Rattle.outside.specs.Seen.{OnlyReads}
use Rattle.page_engine.proofs.Walked.{Comes}
use Rattle.page_engine.proofs.RangeReads.{Stops}
use Rattle.page_engine.specs.Reads.{based_reads}
use Rattle.page_engine.proofs.part_walk.gather_parts.Given as goal

abbrev pub invariant-loop-at : goal.invariant-loop-at
invariant-loop-at g l = record {
  comes : Comes (told_all (g.I.Images.seen l.fn.images).attached) l.paging.plan.now l.paging.size l.from l.stop l.at l.lines;
  stops : Stops l.paging.plan.now l.from l.stop l.at;
  reads : OnlyReads (g.I.Images.seen l.fn.images) (g.I.Images.seen l.images) (based_reads (told_all (g.I.Images.seen l.fn.images).attached) l.paging.plan.now l.from l.at);
  quiet : (g.I.Images.seen l.images).faults ≡ (g.I.Images.seen l.fn.images).faults;
}

abbrev pub decreases-loop-at : goal.decreases-loop-at
decreases-loop-at g l = l.stop - l.at
