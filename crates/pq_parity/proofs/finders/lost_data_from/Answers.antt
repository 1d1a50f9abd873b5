use Rattle.std.proofs.Common.{sym, ◌∙◌}
use Rattle.pq_parity.proofs.finders.lost_data_from.Goals as goal

pub returns-then-is_lost_data : goal.returns-then-is_lost_data
returns-then-is_lost_data c = (c.loop-place.auto.place, sym c.is_lost_data.ensures ∙ c.if-is_lost_data.true, c.loop-place.invariant)
