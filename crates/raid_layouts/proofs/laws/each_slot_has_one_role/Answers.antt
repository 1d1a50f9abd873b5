use Rattle.raid_layouts.proofs.Levels.{each_slot}
use Rattle.raid_layouts.proofs.laws.each_slot_has_one_role.Goals as goal

pub returns : goal.returns
returns c = each_slot
