use Rattle.std.proofs.Common.{◌<◌, ◌≤◌, ◌+◌, ◌-◌, ◌*◌, List, Option, sym, ap, ◌∙◌, subst, arith}
use Rattle.raid_params.specs.declared.types.Head.{Head}
use Rattle.set_product.specs.Heads.{count_in, numbered}
use Rattle.set_product.specs.Left.{left_heads}
use Rattle.set_product.specs.declared.opened.Opened.{Opened}
use Rattle.set_product.proofs.HeadByHead.{blocks_left, blocks_less, count_here, ending_after, fits_here, opened_is, left_counts, left_past, skip_past, skip_within}
use Rattle.set_product.proofs.heads.skip_heads.Goals as goal

pub overflow_mul-sets : goal.overflow_mul-sets
overflow_mul-sets c = let within = fits_here c.args.plan.now c.loop-block.first c.loop-block.opened c.in-Some.block c.requires.plan c.in-Some.ensures.value c.loop-block.invariant.opened c.loop-block.invariant.count in let few = c.requires.few in omega arith

pub overflow_add-first : goal.overflow_add-first
overflow_add-first c = let within = fits_here c.args.plan.now c.loop-block.first c.loop-block.opened c.in-Some.block c.requires.plan c.in-Some.ensures.value c.loop-block.invariant.opened c.loop-block.invariant.count in let few = c.requires.few in omega arith

pub returns-then-rank-first-clause-left : goal.returns-then-rank-first-clause-left
returns-then-rank-first-clause-left c =
    let count = c.heads_before-count.ensures in
    ap (numbered c.args.plan.now (c.loop-block.first + c.heads_before-count.result * c.in-Some.block.lists)) c.pass_heads.ensures.left
    ∙ skip_within c.args.plan.now c.in-Some.block c.loop-block.first c.args.rank c.heads_before-count.result c.requires.plan (opened_is c.args.plan.now c.loop-block.opened c.in-Some.block c.in-Some.ensures.value c.loop-block.invariant.opened) (let few = c.heads_before-count.ensures.few in omega arith) count.low count.high
    ∙ ap (λ (o : Option Opened). ending_after c.args.rank (numbered c.args.plan.now c.loop-block.first (left_heads c.args.plan.now o))) c.in-Some.ensures.value
    ∙ c.loop-block.invariant.left

pub returns-then-rank-first-clause-first : goal.returns-then-rank-first-clause-first
returns-then-rank-first-clause-first c =
    let few = c.heads_before-count.ensures.few in
    let all = count_here c.args.plan.now c.loop-block.first c.loop-block.opened c.in-Some.block c.in-Some.ensures.value c.loop-block.invariant.count in
    let left = ap (count_in c.args.plan.now) c.pass_heads.ensures.left in
    let some = left_counts c.args.plan.now c.in-Some.block c.heads_before-count.result c.requires.plan (opened_is c.args.plan.now c.loop-block.opened c.in-Some.block c.in-Some.ensures.value c.loop-block.invariant.opened) (omega arith) in
    omega arith

pub loop-block-smaller : goal.loop-block-smaller
loop-block-smaller c =
    let P : Option Opened → Type 0 = λ o. blocks_left c.args.plan.now c.open_from-opened.result < blocks_left c.args.plan.now o in
    subst P c.in-Some.ensures.value (blocks_less c.args.plan.now c.in-Some.block c.open_from-opened.result (opened_is c.args.plan.now c.loop-block.opened c.in-Some.block c.in-Some.ensures.value c.loop-block.invariant.opened) c.open_from-opened.ensures.opened c.open_from-opened.ensures.later)

pub loop-block-preserved : goal.loop-block-preserved
loop-block-preserved c = record {
  left =
      (let past : c.loop-block.first + (c.in-Some.block.heads - c.in-Some.block.next) * c.in-Some.block.lists ≤ c.args.rank = c.if-rank-first.false in
      ap (λ (hs : List Head). ending_after c.args.rank (numbered c.args.plan.now (c.loop-block.first + (c.in-Some.block.heads - c.in-Some.block.next) * c.in-Some.block.lists) hs)) c.open_from-opened.ensures.left
      ∙ sym (skip_past c.args.plan.now c.in-Some.block c.loop-block.first c.args.rank c.requires.plan (opened_is c.args.plan.now c.loop-block.opened c.in-Some.block c.in-Some.ensures.value c.loop-block.invariant.opened) past)
      ∙ ap (λ (o : Option Opened). ending_after c.args.rank (numbered c.args.plan.now c.loop-block.first (left_heads c.args.plan.now o))) c.in-Some.ensures.value
      ∙ c.loop-block.invariant.left);
  opened = c.open_from-opened.ensures.opened;
  count =
      (let all = count_here c.args.plan.now c.loop-block.first c.loop-block.opened c.in-Some.block c.in-Some.ensures.value c.loop-block.invariant.count in
      let past = left_past c.args.plan.now c.in-Some.block c.requires.plan (opened_is c.args.plan.now c.loop-block.opened c.in-Some.block c.in-Some.ensures.value c.loop-block.invariant.opened) in
      let left = ap (count_in c.args.plan.now) c.open_from-opened.ensures.left in
      omega arith);
}

pub returns-clause-left : goal.returns-clause-left
unfolding numbered
returns-clause-left c =
    ap (λ (o : Option Opened). ending_after c.args.rank (numbered c.args.plan.now c.loop-block.first (left_heads c.args.plan.now o))) c.in_default.ensures.value
    ∙ c.loop-block.invariant.left
