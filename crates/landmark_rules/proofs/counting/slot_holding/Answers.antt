use Rattle.std.proofs.Common.{sym, ◌∙◌}
use Rattle.landmark_rules.proofs.Holding.{held_first}
use Rattle.landmark_rules.proofs.counting.slot_holding.Goals as goal

pub returns-then-holds-clause-slot : goal.returns-then-holds-clause-slot
returns-then-holds-clause-slot c =
    sym (held_first c.args.image c.loop-slot.slot c.args.slots.now c.loop-slot-test.true c.loop-slot.invariant (sym c.holds.ensures ∙ c.if-holds.true))
