use Rattle.set_product.proofs.HeadByHead.{heads_hold}
use Rattle.set_product.proofs.laws.heads_hold_their_ranks.Goals as goal

pub returns : goal.returns
returns c = heads_hold
