use Rattle.std.proofs.Common.{◌≡◌}
use Rattle.survey_engine.proofs.Stated.{stated_to}
use Rattle.survey_engine.proofs.systems.stated.Given as goal

abbrev pub invariant-loop-sighting : goal.invariant-loop-sighting
invariant-loop-sighting l = l.all ≡ stated_to l.found l.sighting-index
