use Rattle.std.proofs.Common.{◌+◌, refl, sym, ◌∙◌, arith}
use Rattle.set_product.proofs.HeadByHead.{after_all, after_none, at_first, lists_below, shape_is, shapes_count}
use Rattle.set_product.proofs.opened.open_from.Goals as goal

pub overflow_cast-lists : goal.overflow_cast-lists
overflow_cast-lists c =
    let is = c.count_lists-lists.ensures in
    let below = lists_below c.args.plan.now c.block_at-block.result c.loop-at.at c.requires.plan c.block_at-block.ensures.block c.block_at-block.ensures.shape
    (let count = c.count_heads-heads.ensures.count in let some = c.if-heads-gt0.true in omega arith) c.requires.few in
    omega arith

pub returns-then-heads-gt0-clause-left : goal.returns-then-heads-gt0-clause-left
returns-then-heads-gt0-clause-left c =
    at_first c.args.plan.now (record { after = c.loop-at.at + 1; block = c.block_at-block.result; heads = c.count_heads-heads.result; lists = c.count_lists-lists.result; next = 0 })
    c.loop-at.at (shape_is c.args.plan.now c.loop-at.at c.block_at-block.result.level c.block_at-block.result.members c.block_at-block.ensures.shape) refl refl
    ∙ sym c.loop-at.invariant

pub returns-then-heads-gt0-clause-opened : goal.returns-then-heads-gt0-clause-opened
returns-then-heads-gt0-clause-opened c = record {
  after = (let count = shapes_count c.args.plan.now in let end = c.shape_count-at-end.ensures.count in let below = c.loop-at-test.true in omega arith);
  block = c.block_at-block.ensures.block;
  heads = (let is = c.count_heads-heads.ensures.count in let few = c.count_heads-heads.ensures.few in omega arith);
  lists =
      (let is = c.count_lists-lists.ensures in
      let below = lists_below c.args.plan.now c.block_at-block.result c.loop-at.at c.requires.plan c.block_at-block.ensures.block c.block_at-block.ensures.shape
      (let count = c.count_heads-heads.ensures.count in let some = c.if-heads-gt0.true in omega arith) c.requires.few in
      omega arith);
  next = c.if-heads-gt0.true;
}

pub loop-at-preserved : goal.loop-at-preserved
loop-at-preserved c =
    c.loop-at.invariant
    ∙ after_none c.args.plan.now c.loop-at.at c.block_at-block.result.level c.block_at-block.result.members
    (shape_is c.args.plan.now c.loop-at.at c.block_at-block.result.level c.block_at-block.result.members c.block_at-block.ensures.shape)
    (let count = c.count_heads-heads.ensures.count in let none = c.if-heads-gt0.false in omega arith)

pub returns-clause-left : goal.returns-clause-left
returns-clause-left c =
    sym (c.loop-at.invariant ∙ after_all c.args.plan.now c.loop-at.at (let count = c.shape_count-at-end.ensures.count in let end = c.loop-at-test.false in omega arith))
