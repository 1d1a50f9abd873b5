use Rattle.std.proofs.Common.{◌≡◌, ◌+◌, ◌*◌}
use Rattle.raid_params.specs.declared.limits.TheConstants.{MOST}
use Rattle.survey_engine.specs.Sightings.{AreBefore}
use Rattle.survey_engine.proofs.Rows.{with_rows}
use Rattle.survey_engine.proofs.gathering.look_at_block.Given as goal

abbrev pub invariant-loop-place : goal.invariant-loop-place
invariant-loop-place l = record {
  found : l.counted ≡ with_rows l.ask l.lengths l.sweep l.fn.counted l.place;
  before : AreBefore l.lengths ((l.sweep.first + l.place) * MOST) l.counted;
}
