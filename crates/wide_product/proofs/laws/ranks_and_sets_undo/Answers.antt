use Rattle.wide_product.proofs.Undo.{undo}
use Rattle.wide_product.proofs.laws.ranks_and_sets_undo.Goals as goal

pub returns : goal.returns
returns c = undo
