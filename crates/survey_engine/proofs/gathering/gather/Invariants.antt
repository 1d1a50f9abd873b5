use Rattle.std.proofs.Common.{◌≡◌, ◌-◌, ◌*◌, ◌≤◌, length}
use Rattle.survey_engine.specs.Sweep.{next_of}
use Rattle.outside.specs.Seen.{OnlyReads}
use Rattle.raid_params.specs.declared.limits.TheConstants.{MOST}
use Rattle.survey_engine.specs.Sightings.{AreBefore}
use Rattle.survey_engine.proofs.Sweeping.{Few, Told}
use Rattle.survey_engine.proofs.gathering.gather.Given as goal

abbrev pub invariant-loop-counted : goal.invariant-loop-counted
invariant-loop-counted g l = record {
  reads : OnlyReads (g.I.Images.seen l.fn.images) (g.I.Images.seen l.images) (length l.lengths * (next_of l.sweep - l.first));
  told : Told (g.I.Images.seen l.fn.images).attached l.ask l.lengths (next_of l.sweep) l.counted;
  before : AreBefore l.lengths (next_of l.sweep * MOST) l.counted;
  few : Few l.counted;
  end : l.sweep.end ≡ l.ask.end;
  images : length l.sweep.blocks ≡ length l.lengths;
  within : next_of l.sweep ≤ l.ask.end;
  after : l.first ≤ next_of l.sweep;
  stays : (g.I.Images.seen l.images).faults ≡ (g.I.Images.seen l.fn.images).faults;
}

abbrev pub decreases-loop-counted : goal.decreases-loop-counted
decreases-loop-counted g l = l.ask.end - next_of l.sweep
