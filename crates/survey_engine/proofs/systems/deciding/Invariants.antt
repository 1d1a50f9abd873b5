use Rattle.std.proofs.Common.{◌≡◌}
use Rattle.survey_engine.proofs.Stated.{decided_to}
use Rattle.survey_engine.proofs.systems.deciding.Given as goal

abbrev pub invariant-loop-next : goal.invariant-loop-next
invariant-loop-next l = l.best ≡ decided_to l.all l.first l.next-index
