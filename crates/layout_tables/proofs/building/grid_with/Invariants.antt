use Rattle.std.proofs.Common.{◌≡◌, take}
use Rattle.layout_tables.specs.Cells.{cells_in}
use Rattle.layout_tables.specs.Shape.{grid_of}
use Rattle.layout_tables.proofs.building.grid_with.Given as goal

abbrev pub invariant-loop-at : goal.invariant-loop-at
invariant-loop-at l = l.grid ≡ grid_of (cells_in (take l.at l.rows))
