use Rattle.std.proofs.Common.{ℕ, ◌+◌, ◌-◌, ◌*◌, ◌/◌, ◌∙◌, refl, ap, arith}
use Rattle.raid_params.specs.Bases.{greatest_base}
use Rattle.raid_params.specs.declared.types.Head.{Head}
use Rattle.wide_product.specs.declared.parts.Part.{Part}
use Rattle.wide_product.proofs.PartAt.{part_is, parts, splits}
use Rattle.wide_product.proofs.parts.part_at.Goals as goal

pub overflow_cast-later : goal.overflow_cast-later
overflow_cast-later c = let split = splits c.args.plan.now c.args.rank c.count_later-later.result c.requires.plan c.requires.each c.requires.few c.requires.rank c.count_later-later.ensures in let fits = split.fits in omega arith

pub nonzero_div-rank : goal.nonzero_div-rank
nonzero_div-rank c = (splits c.args.plan.now c.args.rank c.count_later-later.result c.requires.plan c.requires.each c.requires.few c.requires.rank c.count_later-later.ensures).some

pub group_at-group-requires-clause-few : goal.group_at-group-requires-clause-few
group_at-group-requires-clause-few c = (splits c.args.plan.now c.args.rank c.count_later-later.result c.requires.plan c.requires.each c.requires.few c.requires.rank c.count_later-later.ensures).few

pub group_at-group-requires-clause-rank : goal.group_at-group-requires-clause-rank
group_at-group-requires-clause-rank c = (splits c.args.plan.now c.args.rank c.count_later-later.result c.requires.plan c.requires.each c.requires.few c.requires.rank c.count_later-later.ensures).below

pub plan_bases-bases-requires-clause-few : goal.plan_bases-bases-requires-clause-few
plan_bases-bases-requires-clause-few c =
    (parts c.args.plan.now c.args.rank c.count_later-later.result c.group_at-group.result c.requires.plan c.requires.each c.requires.few (splits c.args.plan.now c.args.rank c.count_later-later.result c.requires.plan c.requires.each c.requires.few c.requires.rank c.count_later-later.ensures) c.group_at-group.ensures.group).few

pub plan_bases-bases-requires-clause-rank : goal.plan_bases-bases-requires-clause-rank
plan_bases-bases-requires-clause-rank c =
    (parts c.args.plan.now c.args.rank c.count_later-later.result c.group_at-group.result c.requires.plan c.requires.each c.requires.few (splits c.args.plan.now c.args.rank c.count_later-later.result c.requires.plan c.requires.each c.requires.few c.requires.rank c.count_later-later.ensures) c.group_at-group.ensures.group).list

pub overflow_mul-start : goal.overflow_mul-start
overflow_mul-start c =
    let known = parts c.args.plan.now c.args.rank c.count_later-later.result c.group_at-group.result c.requires.plan c.requires.each c.requires.few (splits c.args.plan.now c.args.rank c.count_later-later.result c.requires.plan c.requires.each c.requires.few c.requires.rank c.count_later-later.ensures) c.group_at-group.ensures.group in
    let low = known.low in
    let rank = c.requires.rank in
    let few = c.requires.few in
    omega arith

pub overflow_sub-list : goal.overflow_sub-list
overflow_sub-list c =
    (parts c.args.plan.now c.args.rank c.count_later-later.result c.group_at-group.result c.requires.plan c.requires.each c.requires.few (splits c.args.plan.now c.args.rank c.count_later-later.result c.requires.plan c.requires.each c.requires.few c.requires.rank c.count_later-later.ensures) c.group_at-group.ensures.group).low

pub nonzero_div-list : goal.nonzero_div-list
nonzero_div-list c =
    (parts c.args.plan.now c.args.rank c.count_later-later.result c.group_at-group.result c.requires.plan c.requires.each c.requires.few (splits c.args.plan.now c.args.rank c.count_later-later.result c.requires.plan c.requires.each c.requires.few c.requires.rank c.count_later-later.ensures) c.group_at-group.ensures.group).some

pub overflow_mul-result : goal.overflow_mul-result
overflow_mul-result c =
    let known = parts c.args.plan.now c.args.rank c.count_later-later.result c.group_at-group.result c.requires.plan c.requires.each c.requires.few (splits c.args.plan.now c.args.rank c.count_later-later.result c.requires.plan c.requires.each c.requires.few c.requires.rank c.count_later-later.ensures) c.group_at-group.ensures.group in
    let ends = known.ends in
    let few = c.requires.few in
    omega arith

pub overflow_add-result : goal.overflow_add-result
overflow_add-result c =
    let known = parts c.args.plan.now c.args.rank c.count_later-later.result c.group_at-group.result c.requires.plan c.requires.each c.requires.few (splits c.args.plan.now c.args.rank c.count_later-later.result c.requires.plan c.requires.each c.requires.few c.requires.rank c.count_later-later.ensures) c.group_at-group.ensures.group in
    let ends = known.ends in
    let few = c.requires.few in
    omega arith

pub returns-clause-part : goal.returns-clause-part
returns-clause-part c =
    let split = splits c.args.plan.now c.args.rank c.count_later-later.result c.requires.plan c.requires.each c.requires.few c.requires.rank c.count_later-later.ensures in
    let known = parts c.args.plan.now c.args.rank c.count_later-later.result c.group_at-group.result c.requires.plan c.requires.each c.requires.few split c.group_at-group.ensures.group in
    let start = c.group_at-group.result.first * c.count_later-later.result in
    let list = (c.args.rank - start) / c.group_at-group.result.count in
    let part : Part = record { head = c.with_offset.result; bases = c.plan_bases-bases.result; space = c.group_at-group.result.space; first = start + list * c.group_at-group.result.count; count = c.group_at-group.result.count } in
    part_is c.args.plan.now (c.args.rank / c.count_later-later.result) c.count_later-later.result list c.group_at-group.result part c.requires.plan c.requires.each split.later_is c.group_at-group.ensures.group c.plan_bases-bases.ensures
    (c.with_offset.ensures ∙ ap (λ (n : ℕ). let h : Head = record c.group_at-group.result.head { offset = n } in h) (c.greatest_of.ensures ∙ ap greatest_base c.deref.ensures.0)) refl refl refl known.ends

pub returns-clause-from : goal.returns-clause-from
returns-clause-from c =
    (parts c.args.plan.now c.args.rank c.count_later-later.result c.group_at-group.result c.requires.plan c.requires.each c.requires.few (splits c.args.plan.now c.args.rank c.count_later-later.result c.requires.plan c.requires.each c.requires.few c.requires.rank c.count_later-later.ensures) c.group_at-group.ensures.group).from

pub returns-clause-to : goal.returns-clause-to
returns-clause-to c =
    (parts c.args.plan.now c.args.rank c.count_later-later.result c.group_at-group.result c.requires.plan c.requires.each c.requires.few (splits c.args.plan.now c.args.rank c.count_later-later.result c.requires.plan c.requires.each c.requires.few c.requires.rank c.count_later-later.ensures) c.group_at-group.ensures.group).to
