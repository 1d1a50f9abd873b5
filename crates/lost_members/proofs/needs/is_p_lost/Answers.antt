use Rattle.std.proofs.Common.{◌≡◌, ◌<◌, ◌∙◌, length, get_or, Some, None, rules, arith, sym}
use Rattle.std.specs.Option.{is_none}
use Rattle.raid_layouts.proofs.Levels.{layout_of}
use Rattle.raid_terms.specs.Role.{p_of}
use Rattle.lost_members.proofs.LostParts.{no_p_lost, p_lost_at}
use Rattle.member_regions.proofs.Sets.{testable_head, testable_slots}
use Rattle.lost_members.proofs.needs.is_p_lost.Goals as goal

pub returns-in-Some : goal.returns-in-Some
returns-in-Some c =
    let geo = c.args.geo.now in
    let is : p_of geo.head c.args.row ≡ Some c.in-Some.p = search rules in
    let lies = (layout_of geo.head c.args.row (testable_head geo c.requires.set)).p_in c.in-Some.p is in
    let long = testable_slots geo c.requires.set in
    let below : c.in-Some.p < length geo.slots.items = omega arith in
    let empty : c.is_none.result ≡ is_none (get_or geo.slots.items c.in-Some.p None) = search rules in
    empty ∙ sym (p_lost_at geo.head c.args.row c.in-Some.p geo.slots.items None below is)

pub returns-in-None : goal.returns-in-None
returns-in-None c =
    let is : p_of c.args.geo.now.head c.args.row ≡ None = search rules in
    sym (no_p_lost c.args.geo.now.head c.args.row c.args.geo.now.slots.items is)
