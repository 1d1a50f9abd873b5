use Rattle.std.proofs.Common.{ℕ, ◌==◌, ◌∙◌, List, refl, sym, ap, subst, arith}
use Rattle.std.specs.List.{position}
use Rattle.std.specs.Option.{IsSome}
use Rattle.wide_product.proofs.GroupAt.{begins, some_place}
use Rattle.wide_product.proofs.groups.group_at.Goals as goal

pub unwrap-place-requires : goal.unwrap-place-requires
unwrap-place-requires c =
    let found = some_place c.args.plan.now c.args.rank c.sets_at-sets.result c.requires.plan c.requires.rank c.sets_at-sets.ensures in
    subst IsSome (sym (c.place_of.ensures ∙ ap (λ (l : List ℕ). position (λ other. c.sets_at-sets.result.head.offset == other) l) c.deref.ensures.0 ∙ found.1)) refl

pub overflow_mul-result : goal.overflow_mul-result
overflow_mul-result c =
    let known = begins c.args.plan.now c.args.rank c.unwrap-place.result c.sets_at-sets.result c.requires.plan c.requires.rank c.sets_at-sets.ensures
    (sym (ap (λ (l : List ℕ). position (λ other. c.sets_at-sets.result.head.offset == other) l) c.deref.ensures.0) ∙ sym c.place_of.ensures ∙ c.unwrap-place.ensures) in
    let fits = known.fits in
    let low = known.low in
    let few = c.requires.few in
    let rank = c.requires.rank in
    omega arith

pub overflow_sub-result : goal.overflow_sub-result
overflow_sub-result c =
    (begins c.args.plan.now c.args.rank c.unwrap-place.result c.sets_at-sets.result c.requires.plan c.requires.rank c.sets_at-sets.ensures
    (sym (ap (λ (l : List ℕ). position (λ other. c.sets_at-sets.result.head.offset == other) l) c.deref.ensures.0) ∙ sym c.place_of.ensures ∙ c.unwrap-place.ensures)).fits

pub returns : goal.returns
returns c = record {
  group = (begins c.args.plan.now c.args.rank c.unwrap-place.result c.sets_at-sets.result c.requires.plan c.requires.rank c.sets_at-sets.ensures
      (sym (ap (λ (l : List ℕ). position (λ other. c.sets_at-sets.result.head.offset == other) l) c.deref.ensures.0) ∙ sym c.place_of.ensures ∙ c.unwrap-place.ensures)).group;
}
