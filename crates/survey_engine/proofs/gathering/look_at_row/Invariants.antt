use Rattle.std.proofs.Common.{◌≡◌, ◌+◌, ◌*◌}
use Rattle.raid_params.specs.declared.limits.TheConstants.{MOST}
use Rattle.survey_engine.specs.Sightings.{AreBefore}
use Rattle.survey_engine.proofs.Rows.{with_row}
use Rattle.survey_engine.proofs.gathering.look_at_row.Given as goal

abbrev pub invariant-loop-image : goal.invariant-loop-image
invariant-loop-image l = record {
  found : l.counted ≡ with_row l.ask l.lengths l.sweep l.place l.fn.counted l.image;
  before : AreBefore l.lengths ((l.sweep.first + l.place) * MOST + l.image) l.counted;
}
