use Rattle.slot_math.proofs.Listed.{listed}
use Rattle.slot_math.proofs.laws.each_list_is_shaped.Goals as goal

pub returns : goal.returns
returns c = listed
