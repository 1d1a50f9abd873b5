use Rattle.std.proofs.Common.{sym, ◌∙◌}
use Rattle.survey_engine.specs.Sightings.{sighted_at}
use Rattle.survey_engine.proofs.Owners.{sound_named}
use Rattle.survey_engine.proofs.grouping.owner_among.Goals as goal

pub returns-in-Some-clause-sound : goal.returns-in-Some-clause-sound
returns-in-Some-clause-sound c =
    sound_named c.args.systems.now (sighted_at c.args.sighting.now) c.args.sighting.now.landmark c.in-Some.owner c.requires.systems c.requires.sighting (sym c.named_by.ensures.owner ∙ c.in-Some.is)
