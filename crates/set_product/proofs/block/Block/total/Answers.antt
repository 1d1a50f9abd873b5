use Rattle.std.proofs.Common.{◌^◌, min, ℕ, length, sym, ap, ◌∙◌}
use Rattle.slot_math.specs.Space.{lists_of}
use Rattle.set_product.specs.Blocks.{heads_with}
use Rattle.set_product.proofs.BlockRanks.{sets_count}
use Rattle.set_product.proofs.block.Block.total.Goals as goal

pub returns : goal.returns
returns c =
    c.count_pairs.ensures (length (heads_with c.args.plan.now.bounds c.args.self.now.level c.args.self.now.members)) (length (lists_of c.args.self.now.space)) c.count_heads.ensures.count c.count_lists.ensures
    ∙ ap (λ (n : ℕ). min n (2 ^ 64)) (sym (sets_count c.args.plan.now c.args.self.now c.requires.plan c.requires.block))
