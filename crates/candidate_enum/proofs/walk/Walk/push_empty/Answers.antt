use Rattle.std.proofs.Common.{◌≡◌, ◌≤◌, length, arith}
use Rattle.raid_params.specs.Slots.{empties}
use Rattle.slot_math.proofs.Fronts.{room}
use Rattle.candidate_enum.proofs.Keeping.{kept_empty}
use Rattle.candidate_enum.proofs.walk.Walk.push_empty.Goals as goal

pub overflow_add-self : goal.overflow_add-self
overflow_add-self c =
    let walk = c.args.self.now in
    let few : empties walk.slots.items ≤ length walk.slots.items = room walk.slots.items in
    let same : walk.empty ≡ empties walk.slots.items = c.requires.kept.places in
    omega arith

pub returns-clause-kept : goal.returns-clause-kept
returns-clause-kept c =
    let walk = c.args.self.now in
    kept_empty walk.slots.items c.push.new.self.items walk.free walk.empty c.requires.kept c.push.ensures.items
