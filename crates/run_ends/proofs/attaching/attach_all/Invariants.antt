use Rattle.run_ends.proofs.OneByOne.{AttachedSoFar}
use Rattle.run_ends.proofs.attaching.attach_all.Given as goal

abbrev pub invariant-loop-name : goal.invariant-loop-name
invariant-loop-name g l = AttachedSoFar (g.I.Images.seen l.fn.images) (g.I.Images.seen l.images) l.names l.name-index
