use Rattle.std.proofs.Common.{◌≡◌, List, map, subst, ◌∙◌, rules}
use Rattle.std.proofs.lemmas.List.Sorted.{IsNonDecreasingBy-from_sort_by_key}
use Rattle.std.specs.List.Sorted.{IsPermutation}
use Rattle.landmark_rules.specs.Groups.{mark_place}
use Rattle.landmark_rules.specs.declared.marks.Mark.{Mark}
use Rattle.padded_images.specs.Plans.{padded_mark}
use Rattle.padded_images.proofs.Order.{are_in_order}
use Rattle.padded_images.proofs.plans.padded_marks.Goals as goal

pub returns : goal.returns
returns c =
    let bases = c.args.bases.now in
    let marks = c.args.marks.now in
    let sorted = c.sort_unstable_by_key.new.self.items in
    let unsorted : c.in_ok-unsorted.unsorted.items ≡ map (padded_mark bases) marks = c.in_ok-unsorted.ensures in
    let permutes : IsPermutation (map (padded_mark bases) marks) sorted = subst (λ (ms : List Mark). IsPermutation ms sorted) unsorted c.sort_unstable_by_key.ensures.permutation in
    let climbs = IsNonDecreasingBy-from_sort_by_key mark_place _ c.sort_unstable_by_key.ensures.sorted (λ a r q k. search rules) in
    let put : c.extend_from_slice.new.self ≡ sorted = search rules in
    put ∙ are_in_order bases marks sorted c.requires.rising c.requires.few permutes climbs
