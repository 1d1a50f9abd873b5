use Rattle.raid_layouts.proofs.Powers.{exponents_are_below_members as below}
use Rattle.raid_layouts.proofs.laws.exponents_are_below_members.Goals as goal

pub returns : goal.returns
returns c = below
