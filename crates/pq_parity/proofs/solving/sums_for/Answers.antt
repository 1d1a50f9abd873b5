use Rattle.std.proofs.Common.{◌∙◌, sym}
use Rattle.pq_parity.proofs.Asked.{asked_has_q}
use Rattle.pq_parity.proofs.solving.sums_for.Goals as goal

pub sums_of-requires-clause-q : goal.sums_of-requires-clause-q
sums_of-requires-clause-q c = asked_has_q c.args.cells.now c.requires.cells c.requires.missing (sym c.asks_both.ensures ∙ c.if-asks_both.true)
