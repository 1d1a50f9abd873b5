use Rattle.std.proofs.Common.{◌≡◌, map, take}
use Rattle.rescue_map.specs.Damaged.{known_slot}
use Rattle.rescue_map.proofs.damaged.damaged.Given as goal

abbrev pub invariant-loop-held : goal.invariant-loop-held
invariant-loop-held l = l.slots.items ≡ map (known_slot l.rescue l.set l.sector) (take l.held-index l.held-items)
