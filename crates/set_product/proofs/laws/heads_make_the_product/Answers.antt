use Rattle.set_product.proofs.HeadByHead.{heads_make}
use Rattle.set_product.proofs.laws.heads_make_the_product.Goals as goal

pub returns : goal.returns
returns c = heads_make
