use Rattle.std.proofs.Common.{◌≡◌, ◌+◌, ◌≤◌, take}
use Rattle.std.specs.List.{count_by}
use Rattle.landmark_rules.specs.Groups.{mark_fits, mark_misfits}
use Rattle.landmark_rules.proofs.counting.tally.Given as goal

abbrev pub invariant-loop-mark : goal.invariant-loop-mark
invariant-loop-mark l = record {
  fits : l.count.fits ≡ count_by (mark_fits l.geo l.end l.origin) (take l.mark-index l.mark-items);
  misfits : l.count.misfits ≡ count_by (mark_misfits l.geo l.end l.origin) (take l.mark-index l.mark-items);
  few : l.count.fits + l.count.misfits ≤ l.mark-index;
}
