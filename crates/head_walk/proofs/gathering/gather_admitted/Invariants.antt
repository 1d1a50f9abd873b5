use Rattle.std.proofs.Common.{◌≡◌}
use Rattle.outside.specs.Attached.{told_all}
use Rattle.head_walk.specs.Walk.{is_admitted}
use Rattle.head_walk.proofs.Leafwise.{Stands}
use Rattle.head_walk.proofs.gathering.gather_admitted.Given as goal

abbrev pub invariant-loop-leaf : goal.invariant-loop-leaf
invariant-loop-leaf g l = record {
  quiet : (g.I.Images.seen l.images).faults ≡ (g.I.Images.seen l.fn.images).faults;
  goes : (goal.iterator-loop-leaf g).can_next l.walk × (goal.iterator-loop-leaf g).is_finite l.walk;
  stands : Stands (told_all (g.I.Images.seen l.fn.images).attached) l.paging.plan.now l.sets (is_admitted l.family) l.from l.stop l.paging.size (g.I.Images.seen l.fn.images) (g.I.Images.seen l.images) l.fn.page l.page l.walk.leaves;
}
