use Rattle.std.proofs.Common.{◌≡◌, ◌^◌, ℕ, min, length, sym, ap, ◌∙◌, arith}
use Rattle.plan_sets.specs.Sets.{total_of}
use Rattle.set_product.specs.Blocks.{sets_with}
use Rattle.set_product.proofs.Walks.{at_end, before_all, count_more, none_before, sets_before}
use Rattle.set_product.proofs.product.count_sets.Goals as goal

pub loop-at-init : goal.loop-at-init
loop-at-init c = let none : length (sets_before c.args.plan.now 0) ≡ 0 = ap length (none_before c.args.plan.now) in omega arith

pub loop-at-preserved : goal.loop-at-preserved
loop-at-preserved c =
    c.count_both-sum.ensures (length (sets_before c.args.plan.now c.loop-at.at)) (length (sets_with c.args.plan.now (c.block_at.result.level, c.block_at.result.members))) c.loop-at.invariant c.total.ensures
    ∙ ap (λ (n : ℕ). min n (2 ^ 64)) (sym (count_more c.args.plan.now c.loop-at.at (c.block_at.result.level, c.block_at.result.members) c.block_at.ensures.shape))

pub returns : goal.returns
unfolding total_of
returns c =
    c.loop-at.invariant
    ∙ ap (λ (n : ℕ). min n (2 ^ 64)) (ap length (before_all c.args.plan.now c.loop-at.at (at_end c.loop-at.at c.shape_count-at-end.result _ c.loop-at.auto.at-end c.loop-at-test.false c.shape_count-at-end.ensures.count)))
