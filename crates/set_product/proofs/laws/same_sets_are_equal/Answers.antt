use Rattle.set_product.proofs.Equal.{equal_sets, same_sets}
use Rattle.set_product.proofs.laws.same_sets_are_equal.Goals as goal

pub returns : goal.returns
returns c = λ a b. (same_sets a b, equal_sets a b)
