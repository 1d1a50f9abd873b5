use Rattle.slot_math.proofs.Once.{each_once}
use Rattle.slot_math.proofs.laws.each_list_once.Goals as goal

pub returns : goal.returns
returns c = each_once
