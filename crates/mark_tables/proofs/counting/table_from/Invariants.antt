use Rattle.std.proofs.Common.{◌≡◌, ℕ, ◌-◌, ◌≤◌, ◌<◌, [], length, get_or}
use Rattle.raid_params.specs.declared.limits.TheConstants.{MOST}
use Rattle.mark_tables.specs.Marks.{fits_at}
use Rattle.mark_tables.specs.Tables.{AreMost, CountMarks}
use Rattle.mark_tables.proofs.counting.table_from.Given as goal

abbrev pub invariant-loop-back : goal.invariant-loop-back
invariant-loop-back l = record {
  each : (slot : ℕ) → l.head.members - l.back ≤ slot → slot < l.head.members →
      CountMarks l.head l.end l.marks l.origin slot (get_or l.table slot []) × AreMost (fits_at l.head l.end l.marks l.origin) l.head.members slot (get_or l.table slot []);
  later : AreMost (fits_at l.head l.end l.marks l.origin) l.head.members (l.head.members - l.back) l.later;
  room : length l.table ≡ MOST;
}
