use Rattle.set_product.proofs.block.Block.start_at.Goals as goal

pub returns : goal.returns
returns c = cc
