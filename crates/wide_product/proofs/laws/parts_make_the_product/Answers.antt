use Rattle.wide_product.proofs.Aligned.{parts_make}
use Rattle.wide_product.proofs.laws.parts_make_the_product.Goals as goal

pub returns : goal.returns
returns c = parts_make
