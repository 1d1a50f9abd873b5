use Rattle.raid_layouts.proofs.Filling.{FilledTo}
use Rattle.raid_layouts.proofs.rows.row_cells.Given as goal

abbrev pub invariant-loop-slot : goal.invariant-loop-slot
invariant-loop-slot l = FilledTo l.geo.head l.row l.geo.slots.items l.slot l.cells.items
