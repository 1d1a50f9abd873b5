use Rattle.std.proofs.Common.{◌≡◌, ◌≤◌, take}
use Rattle.pq_parity.specs.Needs.{lost_data}
use Rattle.raid_terms.specs.Cells.{cells_from}
use Rattle.lost_members.proofs.needs.lost_data.Given as goal

abbrev pub invariant-loop-slot : goal.invariant-loop-slot
invariant-loop-slot l = record {
  few : l.lost ≤ l.slot;
  lost : l.lost ≡ lost_data (cells_from l.geo.head l.row 0 (take l.slot l.geo.slots.items));
}
