use Rattle.set_product.proofs.Uniqueness.{ranked_sets, set_of_rank}
use Rattle.set_product.proofs.laws.ranks_and_sets_undo.Goals as goal

pub returns : goal.returns
returns c = λ plan is_plan rank geo. (λ found. ranked_sets plan is_plan rank geo found, λ e. set_of_rank plan rank geo e)
