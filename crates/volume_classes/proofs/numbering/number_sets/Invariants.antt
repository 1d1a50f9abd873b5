use Rattle.volume_classes.proofs.ClassSteps.{AreNumbered}
use Rattle.volume_classes.proofs.numbering.number_sets.Given as goal

abbrev pub invariant-loop-set : goal.invariant-loop-set
invariant-loop-set l = AreNumbered l.images l.end l.sets l.set-index l.numbers l.firsts
