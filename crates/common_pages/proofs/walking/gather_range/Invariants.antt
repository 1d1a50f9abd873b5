use Rattle.std.proofs.Common.{All, ◌≡◌}
use Rattle.outside.specs.Attached.{told_all}
use Rattle.head_walk.specs.Walk.{left_reads, IsKept}
use Rattle.common_pages.proofs.HeadByHead.{Reaches}
use Rattle.common_pages.proofs.walking.gather_range.Given as goal

abbrev pub invariant-loop-sets : goal.invariant-loop-sets
invariant-loop-sets g l = record {
  quiet : (g.I.Images.seen l.images).faults ≡ (g.I.Images.seen l.fn.images).faults;
  goes : (goal.iterator-loop-sets g).can_next l.heads × (goal.iterator-loop-sets g).is_finite l.heads;
  far : Reaches (told_all (g.I.Images.seen l.fn.images).attached) l.paging.plan.now l.paging.size l.from l.stop l.at (left_reads l.paging.plan.now l.fn.kept) (left_reads l.paging.plan.now l.kept) (g.I.Images.seen l.fn.images) (g.I.Images.seen l.images) l.fn.page l.page l.heads;
  kept : All (IsKept (told_all (g.I.Images.seen l.fn.images).attached) l.paging.plan.now) l.kept;
}
