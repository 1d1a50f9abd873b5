use Rattle.std.proofs.Common.{◌∙◌}
use Rattle.rescue_map.proofs.Runs.{lines_at, run_ended}
use Rattle.rescue_map.proofs.lost.Runs.end_at.Goals as goal

pub returns-in_ok-add_line-clause-lines : goal.returns-in_ok-add_line-clause-lines
returns-in_ok-add_line-clause-lines c lost sectors has stop =
    let runs = c.args.self.now in
    let lines = lines_at lost sectors c.args.at runs.text c.in-Some.first runs.first has.lines c.in-Some.is in
    c.in_ok-add_line.ensures ∙ run_ended lost sectors c.args.at c.in-Some.first runs.text has.within lines stop
