use Rattle.std.proofs.Common.{◌≡◌, ◌≢◌, ◌/◌, ◌∙◌, ap, sym, get_or, Some, None, true, false, nat_le, refl, Bool, ◌||◌, ◌&&◌, rules, arith}
use Rattle.std.specs.Option.{is_none}
use Rattle.std.proofs.lemmas.Bool.Decides.{nat_tests}
use Rattle.pq_parity.specs.Needs.{is_p_lost}
use Rattle.raid_terms.specs.Cells.{row_cells}
use Rattle.raid_terms.specs.Role.{p_of, q_of}
use Rattle.lost_members.proofs.NeededParts.{needed_data, needed_p, needed_q, not_there}
use Rattle.member_regions.proofs.Sets.{testable_head}
use Rattle.lost_members.proofs.needs.is_needed.Goals as goal

pub returns-then-is_none : goal.returns-then-is_none
returns-then-is_none c =
    let empty : is_none (get_or c.args.geo.now.slots.items c.args.slot None) ≡ true = search rules in
    not_there c.args.geo.now c.args.slot c.args.sector empty

pub returns-then-eq : goal.returns-then-eq
returns-then-eq c =
    let geo = c.args.geo.now in
    let there : is_none (get_or geo.slots.items c.args.slot None) ≡ false = search rules in
    let is : p_of geo.head (c.args.sector / geo.head.chunk) ≡ Some c.args.slot = search rules in
    needed_p geo c.args.slot c.args.sector c.lost_data.result there is c.lost_data.ensures

pub returns-then-lost-ge2 : goal.returns-then-lost-ge2
returns-then-lost-ge2 c =
    let geo = c.args.geo.now in
    let there : is_none (get_or geo.slots.items c.args.slot None) ≡ false = search rules in
    let is : q_of geo.head (c.args.sector / geo.head.chunk) ≡ Some c.args.slot = search rules in
    let two : nat_le 2 c.lost_data-lost.result ≡ true = grind (arith, nat_tests) in
    let p_lost = is_p_lost (row_cells geo (c.args.sector / geo.head.chunk)) in
    two ∙ sym (ap (λ (b : Bool). b || nat_le 1 c.lost_data-lost.result && p_lost) two)
    ∙ needed_q geo c.args.slot c.args.sector c.lost_data-lost.result p_lost (testable_head geo c.requires.set) there is c.lost_data-lost.ensures refl

pub returns-then-lost-ge1 : goal.returns-then-lost-ge1
returns-then-lost-ge1 c =
    let geo = c.args.geo.now in
    let there : is_none (get_or geo.slots.items c.args.slot None) ≡ false = search rules in
    let is : q_of geo.head (c.args.sector / geo.head.chunk) ≡ Some c.args.slot = search rules in
    let two : nat_le 2 c.lost_data-lost.result ≡ false = grind (arith, nat_tests) in
    let one : nat_le 1 c.lost_data-lost.result ≡ true = grind (arith, nat_tests) in
    sym (ap (λ (b : Bool). b || nat_le 1 c.lost_data-lost.result && c.is_p_lost.result) two ∙ ap (λ (b : Bool). b && c.is_p_lost.result) one)
    ∙ needed_q geo c.args.slot c.args.sector c.lost_data-lost.result c.is_p_lost.result (testable_head geo c.requires.set) there is c.lost_data-lost.ensures c.is_p_lost.ensures

pub returns-else-lost-ge1 : goal.returns-else-lost-ge1
returns-else-lost-ge1 c =
    let geo = c.args.geo.now in
    let there : is_none (get_or geo.slots.items c.args.slot None) ≡ false = search rules in
    let is : q_of geo.head (c.args.sector / geo.head.chunk) ≡ Some c.args.slot = search rules in
    let two : nat_le 2 c.lost_data-lost.result ≡ false = grind (arith, nat_tests) in
    let one : nat_le 1 c.lost_data-lost.result ≡ false = grind (arith, nat_tests) in
    let p_lost = is_p_lost (row_cells geo (c.args.sector / geo.head.chunk)) in
    one ∙ sym (ap (λ (b : Bool). b || nat_le 1 c.lost_data-lost.result && p_lost) two ∙ ap (λ (b : Bool). b && p_lost) one)
    ∙ needed_q geo c.args.slot c.args.sector c.lost_data-lost.result p_lost (testable_head geo c.requires.set) there is c.lost_data-lost.ensures refl

pub returns-else-eq-2 : goal.returns-else-eq-2
returns-else-eq-2 c =
    let geo = c.args.geo.now in
    let there : is_none (get_or geo.slots.items c.args.slot None) ≡ false = search rules in
    let np : p_of geo.head (c.args.sector / geo.head.chunk) ≢ Some c.args.slot = search rules in
    let nq : q_of geo.head (c.args.sector / geo.head.chunk) ≢ Some c.args.slot = search rules in
    needed_data geo c.args.slot c.args.sector there np nq
