use Rattle.std.proofs.Common.{◌≡◌, ◌<◌, ◌^◌, List, [], ◌∷◌, ◌++◌, length, map, rules, arith, subst, ap, refl, sym, ◌∙◌, Some}
use Rattle.std.proofs.lemmas.List.{map-append}
use Rattle.slot_math.proofs.Nested.{length-map}
use Rattle.std.proofs.lemmas.Option.{slice_get_read, slice_get_within}
use Rattle.std.specs.List.{slice_get}
use Rattle.landmark_rules.specs.Groups.{AreGroups}
use Rattle.landmark_rules.specs.declared.marks.Group.{Group}
use Rattle.mark_tables.specs.Tables.{IsGroupTable}
use Rattle.mark_tables.specs.declared.counts.SlotCount.{SlotCount}
use Rattle.mark_tables.specs.declared.mark_table.GroupTable.{GroupTable}
use Rattle.slot_math.proofs.Lists.{each_pushed, length_pushed}
use Rattle.mark_tables.proofs.Small.{group_few}
use Rattle.mark_tables.proofs.mark_table.MarkTable.build.Goals as goal

pub group_tables-requires-clause-few : goal.group_tables-requires-clause-few
group_tables-requires-clause-few c =
    let are : AreGroups c.args.plan.now.lengths.items c.as_slice-groups.result.now = subst (AreGroups c.args.plan.now.lengths.items) (sym c.as_slice-groups.ensures) c.requires.plan.groups in
    subst (λ (g : Group). length g.marks < 2 ^ 16) (sym c.group-item.is)
    (group_few c.args.plan.now.lengths.items c.as_slice-groups.result.now c.loop-group.group-index c.group-item.result are c.loop-group-test.true)

pub loop-group-preserved : goal.loop-group-preserved
loop-group-preserved c =
    let grown : c.push.new.self.items ≡ c.loop-group.tables.items ++ record { origins = c.in_ok-origins.origins } ∷ [] = search rules in
    let of : GroupTable → List (List (List SlotCount)) = λ table. table.origins.items in
    let mapped : map of c.push.new.self.items ≡ map of c.loop-group.tables.items ++ c.in_ok-origins.origins.items ∷ []
    = ap (map of) grown ∙ map-append of c.loop-group.tables.items (record { origins = c.in_ok-origins.origins } ∷ []) in
    let read : slice_get c.as_slice-groups.result.now c.loop-group.group-index ≡ Some c.group-item.result
    = slice_get_read c.as_slice-groups.result.now (length c.as_slice-groups.result.now) c.loop-group.group-index c.group-item.result refl c.loop-group-test.true c.group-item.is in
    let here : IsGroupTable c.args.head.now c.args.plan.now.end c.args.plan.now.tests c.group-item.result c.in_ok-origins.origins.items = c.in_ok-origins.ensures in
    record {
      long = length_pushed c.loop-group.tables.items c.push.new.self.items c.loop-group.group-index (record { origins = c.in_ok-origins.origins }) grown c.loop-group.invariant.long;
      each = λ g group lt is. each_pushed {X = List (List (List SlotCount))}
          (λ i tables. (group : Group) → slice_get c.as_slice-groups.result.now i ≡ Some group → IsGroupTable c.args.head.now c.args.plan.now.end c.args.plan.now.tests group tables)
          (map of c.loop-group.tables.items) (map of c.push.new.self.items) c.loop-group.group-index c.in_ok-origins.origins.items [] mapped
          (length-map of c.loop-group.tables.items ∙ c.loop-group.invariant.long)
          (λ i low other there. c.loop-group.invariant.each i other low there)
          (λ other there.
          let same : c.group-item.result ≡ other = (cc) in
          subst (λ (x : Group). IsGroupTable c.args.head.now c.args.plan.now.end c.args.plan.now.tests x c.in_ok-origins.origins.items) same here)
          g lt group is;
    }

pub returns : goal.returns
returns c =
    let of : GroupTable → List (List (List SlotCount)) = λ table. table.origins.items in
    let all : c.loop-group.group-index ≡ length c.as_slice-groups.result.now = omega arith in
    record {
      long = length-map of c.loop-group.tables.items ∙ c.loop-group.invariant.long ∙ all ∙ ap length c.as_slice-groups.ensures;
      each = λ g group is.
          let there : slice_get c.as_slice-groups.result.now g ≡ Some group = ap (λ (l : List Group). slice_get l g) c.as_slice-groups.ensures ∙ is in
          let within : g < length c.as_slice-groups.result.now = slice_get_within c.as_slice-groups.result.now g group there in
          c.loop-group.invariant.each g group (omega arith) there;
    }
