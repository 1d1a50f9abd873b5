use Rattle.raid_layouts.proofs.Levels.{each_role}
use Rattle.raid_layouts.proofs.laws.each_role_has_one_slot.Goals as goal

pub returns : goal.returns
returns c = each_role
