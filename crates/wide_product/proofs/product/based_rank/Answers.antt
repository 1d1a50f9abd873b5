use Rattle.std.proofs.Common.{◌∙◌, sym, ap, arith}
use Rattle.plan_sets.specs.Sets.{rank_of}
use Rattle.wide_product.specs.Sets.{based}
use Rattle.wide_product.proofs.Products.{few_bases, few_later, greatest_is, no_more, not_based, not_each, not_there, ranks, common_below}
use Rattle.wide_product.proofs.product.based_rank.Goals as goal

pub returns-then-len : goal.returns-then-len
returns-then-len c = sym (not_each c.args.plan.now (based c.args.set.now) c.requires.each (λ e. c.if-len.true (c.len.ensures.value ∙ e ∙ sym c.len-2.ensures.value)))

pub product_rank-requires-clause-few : goal.product_rank-requires-clause-few
product_rank-requires-clause-few c = let more = no_more c.args.plan.now c.requires.plan in let few = c.requires.few in omega arith

pub returns-in_err-common : goal.returns-in_err-common
returns-in_err-common c =
    c.from_residual.ensures
    ∙ sym (not_there c.args.plan.now (based c.args.set.now) c.requires.plan c.requires.each
    (greatest_is c.args.plan.now c.args.set.now.bases.items c.args.set.now.geo.head.offset c.requires.plan (sym c.len.ensures.value ∙ c.if-len.false ∙ c.len-2.ensures.value) c.args.set.now.is_greatest)
    (sym (ap (rank_of c.args.plan.now) c.with_first.ensures) ∙ sym c.in_err-common.ensures))

pub group_at-group-requires-clause-few : goal.group_at-group-requires-clause-few
group_at-group-requires-clause-few c = let more = no_more c.args.plan.now c.requires.plan in let few = c.requires.few in omega arith

pub group_at-group-requires-clause-rank : goal.group_at-group-requires-clause-rank
group_at-group-requires-clause-rank c = common_below c.args.plan.now c.in_ok-common.common c.with_first.result (sym c.in_ok-common.ensures)

pub list_rank-requires-clause-few : goal.list_rank-requires-clause-few
list_rank-requires-clause-few c = let more = few_bases c.args.plan.now c.in_ok-common.common c.group_at-group.result c.requires.each c.group_at-group.ensures.group in let few = c.requires.few in omega arith

pub returns-in_err-list : goal.returns-in_err-list
returns-in_err-list c =
    c.from_residual-in_err-list.ensures
    ∙ sym (not_based c.args.plan.now (based c.args.set.now) c.requires.each
    (greatest_is c.args.plan.now c.args.set.now.bases.items c.args.set.now.geo.head.offset c.requires.plan (sym c.len.ensures.value ∙ c.if-len.false ∙ c.len-2.ensures.value) c.args.set.now.is_greatest)
    (sym c.in_err-list.ensures))

pub overflow_cast-later : goal.overflow_cast-later
overflow_cast-later c =
    let more = few_later c.args.plan.now c.in_ok-common.common c.requires.plan c.requires.each (common_below c.args.plan.now c.in_ok-common.common c.with_first.result (sym c.in_ok-common.ensures)) in
    let is = c.count_later-later.ensures in
    let few = c.requires.few in
    omega arith

pub returns : goal.returns
returns c = sym (ranks c.args.plan.now (based c.args.set.now) c.in_ok-common.common c.count_later-later.result c.in_ok-list.list c.group_at-group.result c.requires.each
    (greatest_is c.args.plan.now c.args.set.now.bases.items c.args.set.now.geo.head.offset c.requires.plan (sym c.len.ensures.value ∙ c.if-len.false ∙ c.len-2.ensures.value) c.args.set.now.is_greatest)
    (sym (ap (rank_of c.args.plan.now) c.with_first.ensures) ∙ sym c.in_ok-common.ensures)
    (let more = few_later c.args.plan.now c.in_ok-common.common c.requires.plan c.requires.each (common_below c.args.plan.now c.in_ok-common.common c.with_first.result (sym c.in_ok-common.ensures)) in
    let is = c.count_later-later.ensures in
    let few = c.requires.few in
    omega arith)
    c.group_at-group.ensures.group (sym c.in_ok-list.ensures)).rank

pub overflow_mul-result : goal.overflow_mul-result
overflow_mul-result c =
    let known = ranks c.args.plan.now (based c.args.set.now) c.in_ok-common.common c.count_later-later.result c.in_ok-list.list c.group_at-group.result c.requires.each
    (greatest_is c.args.plan.now c.args.set.now.bases.items c.args.set.now.geo.head.offset c.requires.plan (sym c.len.ensures.value ∙ c.if-len.false ∙ c.len-2.ensures.value) c.args.set.now.is_greatest)
    (sym (ap (rank_of c.args.plan.now) c.with_first.ensures) ∙ sym c.in_ok-common.ensures)
    (let more = few_later c.args.plan.now c.in_ok-common.common c.requires.plan c.requires.each (common_below c.args.plan.now c.in_ok-common.common c.with_first.result (sym c.in_ok-common.ensures)) in
    let is = c.count_later-later.ensures in
    let few = c.requires.few in
    omega arith)
    c.group_at-group.ensures.group (sym c.in_ok-list.ensures) in
    let below = known.below in
    let few = c.requires.few in
    omega arith

pub overflow_mul-result-2 : goal.overflow_mul-result-2
overflow_mul-result-2 c =
    let known = ranks c.args.plan.now (based c.args.set.now) c.in_ok-common.common c.count_later-later.result c.in_ok-list.list c.group_at-group.result c.requires.each
    (greatest_is c.args.plan.now c.args.set.now.bases.items c.args.set.now.geo.head.offset c.requires.plan (sym c.len.ensures.value ∙ c.if-len.false ∙ c.len-2.ensures.value) c.args.set.now.is_greatest)
    (sym (ap (rank_of c.args.plan.now) c.with_first.ensures) ∙ sym c.in_ok-common.ensures)
    (let more = few_later c.args.plan.now c.in_ok-common.common c.requires.plan c.requires.each (common_below c.args.plan.now c.in_ok-common.common c.with_first.result (sym c.in_ok-common.ensures)) in
    let is = c.count_later-later.ensures in
    let few = c.requires.few in
    omega arith)
    c.group_at-group.ensures.group (sym c.in_ok-list.ensures) in
    let below = known.below in
    let few = c.requires.few in
    omega arith

pub overflow_add-result : goal.overflow_add-result
overflow_add-result c =
    let known = ranks c.args.plan.now (based c.args.set.now) c.in_ok-common.common c.count_later-later.result c.in_ok-list.list c.group_at-group.result c.requires.each
    (greatest_is c.args.plan.now c.args.set.now.bases.items c.args.set.now.geo.head.offset c.requires.plan (sym c.len.ensures.value ∙ c.if-len.false ∙ c.len-2.ensures.value) c.args.set.now.is_greatest)
    (sym (ap (rank_of c.args.plan.now) c.with_first.ensures) ∙ sym c.in_ok-common.ensures)
    (let more = few_later c.args.plan.now c.in_ok-common.common c.requires.plan c.requires.each (common_below c.args.plan.now c.in_ok-common.common c.with_first.result (sym c.in_ok-common.ensures)) in
    let is = c.count_later-later.ensures in
    let few = c.requires.few in
    omega arith)
    c.group_at-group.ensures.group (sym c.in_ok-list.ensures) in
    let below = known.below in
    let few = c.requires.few in
    omega arith

pub overflow_add-result-2 : goal.overflow_add-result-2
overflow_add-result-2 c =
    let known = ranks c.args.plan.now (based c.args.set.now) c.in_ok-common.common c.count_later-later.result c.in_ok-list.list c.group_at-group.result c.requires.each
    (greatest_is c.args.plan.now c.args.set.now.bases.items c.args.set.now.geo.head.offset c.requires.plan (sym c.len.ensures.value ∙ c.if-len.false ∙ c.len-2.ensures.value) c.args.set.now.is_greatest)
    (sym (ap (rank_of c.args.plan.now) c.with_first.ensures) ∙ sym c.in_ok-common.ensures)
    (let more = few_later c.args.plan.now c.in_ok-common.common c.requires.plan c.requires.each (common_below c.args.plan.now c.in_ok-common.common c.with_first.result (sym c.in_ok-common.ensures)) in
    let is = c.count_later-later.ensures in
    let few = c.requires.few in
    omega arith)
    c.group_at-group.ensures.group (sym c.in_ok-list.ensures) in
    let below = known.below in
    let few = c.requires.few in
    omega arith
