use Rattle.std.proofs.Common.{◌≡◌}
use Rattle.survey_engine.proofs.Recorded.{records_to}
use Rattle.survey_engine.proofs.tables.all_records.Given as goal

abbrev pub invariant-loop-sighting : goal.invariant-loop-sighting
invariant-loop-sighting l = l.seen ≡ records_to l.found l.sighting-index
