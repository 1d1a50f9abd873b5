use Rattle.std.proofs.Common.{sym}
use Rattle.relation_prefix.proofs.beginning.few_refuse_beside.Goals as goal

pub returns-then-is_refused : goal.returns-then-is_refused
returns-then-is_refused c = sym (c.is_refused.ensures c.if-is_refused.true c.args.rows.now c.args.slots.now c.requires.refusals)
