use Rattle.relation_prefix.proofs.demand.clashes.Goals as goal

pub returns-then-not-agrees : goal.returns-then-not-agrees
returns-then-not-agrees c e x hx have = c.agrees.ensures.clash c.if-not-agrees.true x hx (c.loop-slot.invariant x hx have) (c.demand_at-demand.ensures x have)
