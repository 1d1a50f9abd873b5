use Rattle.std.proofs.Common.{◌≡◌, All, IsTrue}
use Rattle.mft.specs.Boot.{is_near}
use Rattle.survey_engine.proofs.Recorded.{boots_to}
use Rattle.survey_engine.proofs.tables.boots_of.Given as goal

abbrev pub invariant-loop-sighting : goal.invariant-loop-sighting
invariant-loop-sighting l = record {
  boots : l.boots ≡ boots_to l.found l.sighting-index;
  near : All (λ boot. IsTrue (is_near boot)) l.boots;
}
