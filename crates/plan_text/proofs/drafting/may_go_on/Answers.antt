use Rattle.plan_text.proofs.Going.{some_begins}
use Rattle.plan_text.proofs.drafting.may_go_on.Goals as goal

pub returns : goal.returns
returns c = rw c.is_some.ensures (some_begins c.args.draft.now c.next_kind.result c.next_kind.ensures)
