use Rattle.std.proofs.Common.{◌≡◌, ℕ, ◌<◌, length, get_or}
use Rattle.raid_params.specs.declared.limits.TheConstants.{MOST}
use Rattle.mark_tables.specs.Marks.{fits_at, most_from}
use Rattle.mark_tables.specs.Tables.{CountMarks}
use Rattle.mark_tables.specs.declared.counts.SlotCount.{SlotCount}
use Rattle.mark_tables.proofs.counting.count_slot.Given as goal

abbrev pub invariant-loop-image : goal.invariant-loop-image
invariant-loop-image l = record {
  counts : CountMarks l.head l.end l.marks l.origin l.slot l.counts;
  most : (i : ℕ) (none : SlotCount) → i < l.image → (get_or l.counts i none).most ≡ most_from (fits_at l.head l.end l.marks l.origin) l.head.members l.slot i;
  room : length l.counts ≡ MOST;
}
