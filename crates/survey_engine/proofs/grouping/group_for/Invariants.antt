use Rattle.std.proofs.Common.{◌≡◌}
use Rattle.survey_engine.proofs.Groups.{marks_to}
use Rattle.survey_engine.proofs.grouping.group_for.Given as goal

abbrev pub invariant-loop-sighting : goal.invariant-loop-sighting
invariant-loop-sighting l = l.marks ≡ marks_to l.owner l.alone l.found l.sighting-index
