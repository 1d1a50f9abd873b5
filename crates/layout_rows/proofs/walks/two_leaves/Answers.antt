use Rattle.std.proofs.Common.{rules, ◌≡◌, ◌∙◌, refl, arith}
use Rattle.search_terms.specs.SlotLists.{all_lists}
use Rattle.raid_params.specs.Slots.{empties, is_distinct, stands}
use Rattle.slot_math.specs.Space.{begins, same_place}
use Rattle.candidate_enum.specs.Tests.{meets, tests}
use Rattle.layout_rows.proofs.walks.two_leaves.Goals as goal

pub returns : goal.returns
unfolding tests meets begins same_place all_lists is_distinct stands empties
returns g c =
    let eight : c.walk_of-walk.result.allowance ≡ 8 = c.walk_of-walk.ensures ∙ refl in
    let first = c.counted_leaf-first.ensures.cost in
    let second = c.counted_leaf-second.ensures.cost in
    let third = c.counted_leaf.ensures.cost in
    let last = c.counted_leaf-2.ensures.cost in
    let end : c.counted_leaf-2.new.walk.allowance ≡ 0 = c.counted_leaf-2.ensures.end (search rules) in
    omega arith
