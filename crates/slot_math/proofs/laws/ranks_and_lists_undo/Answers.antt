use Rattle.slot_math.proofs.Positions.{rank_of_element, element_of_rank}
use Rattle.slot_math.proofs.laws.ranks_and_lists_undo.Goals as goal

pub returns : goal.returns
returns c = λ space rank slots. (rank_of_element space rank slots, element_of_rank space rank slots)
