use Rattle.std.proofs.Common.{◌≡◌, ◌<◌, ◌≤◌, [], ◌∷◌, Bool, true, List, length, arith, ap, refl, sym, subst, ◌∙◌, get_or, Some}
use Rattle.std.proofs.lemmas.Bool.{eqb-true}
use Rattle.std.proofs.lemmas.List.{take_all}
use Rattle.std.proofs.lemmas.List.Folds.{list_all_at}
use Rattle.std.proofs.lemmas.Option.{slice_get_read}
use Rattle.slot_math.proofs.Nested.{length-map}
use Rattle.std.specs.List.{list_all, slice_get}
use Rattle.landmark_rules.specs.declared.marks.Group.{Group}
use Rattle.mark_tables.specs.Marks.{groups_may_hold, may_hold}
use Rattle.mark_tables.specs.Tables.{IsGroupTable}
use Rattle.mark_tables.specs.declared.counts.SlotCount.{SlotCount}
use Rattle.mark_tables.specs.declared.mark_table.GroupTable.{GroupTable}
use Rattle.raid_params.specs.declared.limits.TheConstants.{MOST}
use Rattle.mark_tables.proofs.Prefixes.{mapped_at}
use Rattle.slot_math.proofs.Held.{more_images}
use Rattle.mark_tables.proofs.groups.groups_may_hold.Goals as goal

pub returns-then-is_empty : goal.returns-then-is_empty
unfolding groups_may_hold
returns-then-is_empty c =
    let none : length c.args.plan.now.groups ≡ 0 = ap length (sym c.as_slice.ensures) ∙ eqb-true (length c.as_slice.result.now) 0 (sym c.is_empty.ensures ∙ c.if-is_empty.true) in
    no_group (may_hold c.args.plan.now c.args.head.now c.args.prefix.now) c.args.plan.now.groups none
  where
    no_group : (f : Group → Bool) (groups : List Group) → length groups ≡ 0 → true ≡ list_all f groups
    no_group f [] none = refl
    no_group f (group ∷ groups) none = absurd (omega arith)

pub standing_images-standing-requires : goal.standing_images-standing-requires
standing_images-standing-requires c = more_images (length c.args.plan.now.lengths.items) MOST c.args.prefix.now c.requires.plan.lengths.most c.requires.prefix.images

pub may_hold-requires-clause-tables : goal.may_hold-requires-clause-tables
may_hold-requires-clause-tables c =
    let of : GroupTable → List (List (List SlotCount)) = λ table. table.origins.items in
    let read : slice_get c.args.plan.now.groups c.loop-place.place ≡ Some c.group-item.result
    = ap (λ (l : List Group). slice_get l c.loop-place.place) (sym c.as_slice-group-items.ensures)
    ∙ slice_get_read c.as_slice-group-items.result.now (length c.as_slice-group-items.result.now) c.loop-place.place c.group-item.result refl c.loop-place-test.true c.group-item.is in
    let known : IsGroupTable c.args.head.now c.args.plan.now.end c.args.plan.now.tests c.group-item.result (get_or c.args.table.now c.loop-place.place [])
    = c.requires.table.each c.loop-place.place c.group-item.result read in
    let long : length c.args.table.now ≡ length c.args.plan.now.groups = c.requires.table.long in
    let mapped : length c.args.table.now ≡ length c.table.inside.groups.items = ap length (sym c.table.view_is) ∙ length-map of c.table.inside.groups.items in
    let same : length c.as_slice-group-items.result.now ≡ length c.args.plan.now.groups = ap length c.as_slice-group-items.ensures in
    let within : c.loop-place.place < length c.table.inside.groups.items = let lt = c.loop-place-test.true in omega arith in
    let here : get_or c.args.table.now c.loop-place.place [] ≡ c.deref.result.now
    = ap (λ (l : List (List (List (List SlotCount)))). get_or l c.loop-place.place []) (sym c.table.view_is)
    ∙ mapped_at of c.table.inside.groups.items c.loop-place.place c.index.result.now [] within c.index.ensures
    ∙ sym c.deref.ensures.value in
    subst (IsGroupTable c.args.head.now c.args.plan.now.end c.args.plan.now.tests c.group-item.result) here known

pub returns-then-not-may_hold : goal.returns-then-not-may_hold
unfolding groups_may_hold
returns-then-not-may_hold c =
    let f = may_hold c.args.plan.now c.args.head.now c.args.prefix.now in
    let groups : List Group = c.as_slice-group-items.result.now in
    sym (list_all_at (may_hold c.args.plan.now c.args.head.now c.args.prefix.now) c.as_slice-group-items.result.now c.loop-place.place c.group-item.result c.loop-place-test.true
    (ap (may_hold c.args.plan.now c.args.head.now c.args.prefix.now) (sym c.group-item.is) ∙ sym c.if-not-may_hold.ensures))
    ∙ ap (list_all (may_hold c.args.plan.now c.args.head.now c.args.prefix.now)) c.as_slice-group-items.ensures

pub returns : goal.returns
unfolding groups_may_hold
returns c =
    let same : length c.as_slice-group-items.result.now ≡ length c.args.plan.now.groups = ap length c.as_slice-group-items.ensures in
    let all : length c.args.plan.now.groups ≤ c.loop-place.place = let h = c.loop-place-test.false in omega arith in
    sym c.loop-place.invariant ∙ ap (list_all (may_hold c.args.plan.now c.args.head.now c.args.prefix.now)) (take_all c.loop-place.place c.args.plan.now.groups all)
