use Rattle.slot_math.proofs.Fronts.{nothing_yet}
use Rattle.slot_math.proofs.space.Space.unrank.Goals as goal

pub loop-init : goal.loop-init
loop-init c =
    let h = nothing_yet c.args.self.now c.new-slots.result.items c.args.rank c.new-slots.ensures c.requires.rank in
    record { long = h.0; start = h.1; on = h.2; within = h.3 }
