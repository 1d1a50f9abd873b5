use Rattle.std.proofs.Common.{◌≡◌, All}
use Rattle.survey_engine.specs.Owners.{IsSoundOwner}
use Rattle.survey_engine.proofs.Groups.{owners_to}
use Rattle.survey_engine.proofs.grouping.owners_of.Given as goal

abbrev pub invariant-loop-sighting : goal.invariant-loop-sighting
invariant-loop-sighting l = record {
  owners : l.owners ≡ owners_to l.kind l.systems l.found l.sighting-index;
  sound : All IsSoundOwner l.owners;
}
