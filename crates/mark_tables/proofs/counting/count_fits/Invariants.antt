use Rattle.std.proofs.Common.{◌≡◌, length, take}
use Rattle.raid_params.specs.declared.limits.TheConstants.{MOST}
use Rattle.mark_tables.specs.Tables.{CountMarks}
use Rattle.mark_tables.proofs.counting.count_fits.Given as goal

abbrev pub invariant-loop-mark : goal.invariant-loop-mark
invariant-loop-mark l = record {
  counts : CountMarks l.head l.end (take l.mark-index l.marks) l.origin l.slot l.counts;
  room : length l.counts ≡ MOST;
}
