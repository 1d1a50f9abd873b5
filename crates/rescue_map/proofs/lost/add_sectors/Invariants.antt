use Rattle.std.proofs.Common.{◌-◌, ◌≤◌}
use Rattle.raid_params.specs.Size.{volume_sectors}
use Rattle.rescue_map.specs.Damaged.{is_lost}
use Rattle.rescue_map.specs.LostText.{HasRuns}
use Rattle.rescue_map.proofs.lost.add_sectors.Given as goal

abbrev pub invariant-loop-at : goal.invariant-loop-at
invariant-loop-at l = record {
  within : l.at ≤ l.to;
  runs : HasRuns (is_lost l.damage.rescue.now l.damage.set.now) (volume_sectors l.damage.set.now.geo.head l.damage.end) l.at l.runs;
}

abbrev pub decreases-loop-at : goal.decreases-loop-at
decreases-loop-at l = l.to - l.at
