use Rattle.raid_layouts.proofs.Solvable.{each_row}
use Rattle.raid_layouts.proofs.laws.each_row_can_be_solved.Goals as goal

pub returns : goal.returns
returns c = each_row
