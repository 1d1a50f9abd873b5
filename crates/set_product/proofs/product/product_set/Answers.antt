use Rattle.std.proofs.Common.{◌≡◌, ◌+◌, length, ap, arith}
use Rattle.plan_sets.specs.Sets.{total_of}
use Rattle.set_product.proofs.Walks.{at_end, before_all, count_more, none_before, set_there, sets_before, within_total}
use Rattle.set_product.proofs.product.product_set.Goals as goal

pub loop-at-init : goal.loop-at-init
loop-at-init c =
    let none : length (sets_before c.args.plan.now 0) ≡ 0 = ap length (none_before c.args.plan.now) in
    omega arith

pub loop-at-preserved : goal.loop-at-preserved
loop-at-preserved c =
    let far : c.args.rank ≡ length (sets_before c.args.plan.now c.loop-at.at) + c.loop-at.rest = c.loop-at.invariant in
    let more = count_more c.args.plan.now c.loop-at.at (c.block_at-block.result.level, c.block_at-block.result.members) c.block_at-block.ensures.shape in
    let within = within_total c.args.plan.now c.loop-at.at (c.block_at-block.result.level, c.block_at-block.result.members) c.block_at-block.ensures.shape in
    let few = c.requires.few in
    let own = c.total-total.ensures in
    let rest = c.if-rest-total.false in
    omega arith

pub returns-then-rest-total : goal.returns-then-rest-total
returns-then-rest-total c =
    set_there c.args.plan.now c.loop-at.at (c.block_at-block.result.level, c.block_at-block.result.members) c.args.rank c.loop-at.rest c.set.result c.block_at-block.ensures.shape c.loop-at.invariant c.set.ensures

pub unreachable-requires : goal.unreachable-requires
unfolding total_of
unreachable-requires c =
    let far : c.args.rank ≡ length (sets_before c.args.plan.now c.loop-at.at) + c.loop-at.rest = c.loop-at.invariant in
    let all = ap length (before_all c.args.plan.now c.loop-at.at (at_end c.loop-at.at c.shape_count-at-end.result _ c.loop-at.auto.at-end c.loop-at-test.false c.shape_count-at-end.ensures.count)) in
    let below = c.requires.rank in
    omega arith

pub overflow_cast-total : goal.overflow_cast-total
overflow_cast-total c =
    let within = within_total c.args.plan.now c.loop-at.at (c.block_at-block.result.level, c.block_at-block.result.members) c.block_at-block.ensures.shape in
    let few = c.requires.few in
    let own = c.total-total.ensures in
    omega arith
