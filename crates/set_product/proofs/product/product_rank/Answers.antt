use Rattle.std.proofs.Common.{◌+◌, ℕ, Some, length, sym, ap, ◌∙◌, arith}
use Rattle.std.specs.List.{position}
use Rattle.plan_sets.specs.Sets.{is_same_set}
use Rattle.set_product.proofs.Walks.{at_end, before_all, count_more, none_before, not_there, rank_fits, rank_there, within_total}
use Rattle.set_product.proofs.product.product_rank.Goals as goal

pub loop-at-init : goal.loop-at-init
loop-at-init c = record {
  count = sym (ap length (none_before c.args.plan.now));
  none = ap (position (is_same_set c.args.geo.now)) (none_before c.args.plan.now);
}

found : goal.returns-in-Some
found c =
    let far = c.loop-at.invariant in
    sym (rank_there c.args.plan.now c.args.geo.now c.loop-at.at (c.block_at-block.result.level, c.block_at-block.result.members) c.in-Some.rank c.block_at-block.ensures.shape far.none (sym c.in-Some.ensures)
    ∙ ap (λ (n : ℕ). Some (n + c.in-Some.rank)) (sym far.count))

pub returns-in-Some : goal.returns-in-Some
returns-in-Some c = found c

pub overflow_add-result : goal.overflow_add-result
overflow_add-result c =
    let far = c.loop-at.invariant in
    let below = rank_fits c.args.plan.now c.args.geo.now (c.loop-at.before + c.in-Some.rank) (rank_there c.args.plan.now c.args.geo.now c.loop-at.at (c.block_at-block.result.level, c.block_at-block.result.members) c.in-Some.rank c.block_at-block.ensures.shape far.none (sym c.in-Some.ensures)
    ∙ ap (λ (n : ℕ). Some (n + c.in-Some.rank)) (sym far.count)) in
    let few = c.requires.few in
    omega arith

pub overflow_cast-before : goal.overflow_cast-before
overflow_cast-before c =
    let within = within_total c.args.plan.now c.loop-at.at (c.block_at-block.result.level, c.block_at-block.result.members) c.block_at-block.ensures.shape in
    let own = c.total.ensures in
    let few = c.requires.few in
    omega arith

pub overflow_add-before : goal.overflow_add-before
overflow_add-before c =
    let within = within_total c.args.plan.now c.loop-at.at (c.block_at-block.result.level, c.block_at-block.result.members) c.block_at-block.ensures.shape in
    let so_far = c.loop-at.invariant.count in
    let own = c.total.ensures in
    let few = c.requires.few in
    omega arith

pub loop-at-preserved : goal.loop-at-preserved
loop-at-preserved c =
    let far = c.loop-at.invariant in
    let shape = c.block_at-block.ensures.shape in
    record {
      count = (let within = within_total c.args.plan.now c.loop-at.at (c.block_at-block.result.level, c.block_at-block.result.members) shape in let few = c.requires.few in let more = count_more c.args.plan.now c.loop-at.at (c.block_at-block.result.level, c.block_at-block.result.members) shape in let own = c.total.ensures in let so_far = far.count in omega arith);
      none = not_there c.args.plan.now c.args.geo.now c.loop-at.at (c.block_at-block.result.level, c.block_at-block.result.members) shape far.none (sym c.rank.ensures ∙ c.in_default.is);
    }

pub returns : goal.returns
returns c = sym c.loop-at.invariant.none ∙ ap (position (is_same_set c.args.geo.now)) (before_all c.args.plan.now c.loop-at.at (at_end c.loop-at.at c.shape_count-at-end.result _ c.loop-at.auto.at-end c.loop-at-test.false c.shape_count-at-end.ensures.count))

pub rank-requires-clause-few : goal.rank-requires-clause-few
rank-requires-clause-few c =
    let within = within_total c.args.plan.now c.loop-at.at (c.block_at-block.result.level, c.block_at-block.result.members) c.block_at-block.ensures.shape in
    let few = c.requires.few in
    omega arith
