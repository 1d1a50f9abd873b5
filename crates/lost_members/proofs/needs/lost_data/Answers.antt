use Rattle.std.proofs.Common.{◌≡◌, ◌≢◌, ◌<◌, ◌∙◌, length, get_or, Some, None, true, false, rules, arith}
use Rattle.std.specs.Option.{is_none}
use Rattle.raid_terms.specs.Role.{p_of, q_of}
use Rattle.lost_members.proofs.LostParts.{lost_all, lost_none, lost_one, lost_p, lost_q}
use Rattle.member_regions.proofs.Sets.{testable_head}
use Rattle.lost_members.proofs.needs.lost_data.Goals as goal
use Rattle.lost_members.proofs.needs.lost_data.Goals.{then-is_none+then-ne+then-ne-2, else-is_none, else-is_none-via-then-is_none+then-ne+else-ne-2, else-is_none-via-then-is_none+else-ne, else-is_none-via-else-is_none}

pub loop-slot-preserved : goal.loop-slot-preserved
loop-slot-preserved c =
    let slots = c.args.geo.now.slots.items in
    let below : c.loop-slot.slot < length slots = search rules in
    elim c.if-is_none.branch [
      | then-is_none+then-ne+then-ne-2 w ↦
          let empty : is_none (get_or slots c.loop-slot.slot None) ≡ true = search rules in
          let np : p_of c.args.geo.now.head c.args.row ≢ Some c.loop-slot.slot = search rules in
          let nq : q_of c.args.geo.now.head c.args.row ≢ Some c.loop-slot.slot = search rules in
          let more = lost_one c.args.geo.now.head c.args.row c.loop-slot.slot slots None below empty np nq in
          record { few = omega arith; lost = omega (arith, more, c.loop-slot.invariant.lost, w.lost-is) }
      | else-is_none w ↦ elim w.else-is_none.branch [
        | else-is_none-via-then-is_none+then-ne+else-ne-2 v ↦
            let is : q_of c.args.geo.now.head c.args.row ≡ Some c.loop-slot.slot = search rules in
            let same = lost_q c.args.geo.now.head c.args.row c.loop-slot.slot slots None below (testable_head c.args.geo.now c.requires.set) is in
            record { few = omega arith; lost = omega (arith, same, c.loop-slot.invariant.lost, w.lost-is) }
        | else-is_none-via-then-is_none+else-ne v ↦
            let is : p_of c.args.geo.now.head c.args.row ≡ Some c.loop-slot.slot = search rules in
            let same = lost_p c.args.geo.now.head c.args.row c.loop-slot.slot slots None below is in
            record { few = omega arith; lost = omega (arith, same, c.loop-slot.invariant.lost, w.lost-is) }
        | else-is_none-via-else-is_none v ↦
            let there : is_none (get_or slots c.loop-slot.slot None) ≡ false = search rules in
            let same = lost_none c.args.geo.now.head c.args.row c.loop-slot.slot slots None below there in
            record { few = omega arith; lost = omega (arith, same, c.loop-slot.invariant.lost, w.lost-is) }
      ]
    ]

pub returns : goal.returns
returns c = c.loop-slot.invariant.lost ∙ lost_all c.args.geo.now.head c.args.row c.loop-slot.slot c.args.geo.now.slots.items (search rules)
