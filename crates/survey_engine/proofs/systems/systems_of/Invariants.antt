use Rattle.std.proofs.Common.{◌≡◌}
use Rattle.survey_engine.proofs.Stated.{systems_to}
use Rattle.survey_engine.proofs.systems.systems_of.Given as goal

abbrev pub invariant-loop-first : goal.invariant-loop-first
invariant-loop-first l = l.systems ≡ systems_to l.all l.first-items l.first-index
