use Rattle.std.proofs.Common.{◌∙◌, ap, not, rules}
use Rattle.rescue_map.proofs.Runs.{lost_more, lost_next}
use Rattle.rescue_map.proofs.lost.Runs.lose.Goals as goal

pub returns-then-is_none : goal.returns-then-is_none
returns-then-is_none c lost sectors has lt is =
    let runs = c.args.self.now in
    lost_more lost sectors c.args.at runs.good runs.text runs.first has lt is (ap not c.is_none.ensures ∙ search rules)

pub returns-else-is_none : goal.returns-else-is_none
returns-else-is_none c lost sectors has lt is =
    let runs = c.args.self.now in
    lost_next lost sectors c.args.at runs.good runs.text runs.first has lt is (ap not c.is_none.ensures ∙ search rules)
