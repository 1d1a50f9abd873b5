use Rattle.std.proofs.Common.{ℕ, ◌∙◌, ◌+◌, Option, subst, sym, arith}
use Rattle.rescue_map.specs.LostText.{HasRuns}
use Rattle.rescue_map.proofs.Runs.{passed}
use Rattle.rescue_map.proofs.lost.Runs.pass.Goals as goal

pub returns : goal.returns
returns c lost sectors has within none =
    let e = c.in_ok-end_at.ensures in
    let some = c.requires.some in
    let runs = c.end_at.new.self in
    let more = passed lost sectors c.args.at c.args.count runs.good runs.text some within none
    (e.lines lost sectors has (λ _. none c.args.at (omega arith) (omega arith))) (e.good ∙ has.good) in
    subst (λ (first : Option ℕ). HasRuns lost sectors (c.args.at + c.args.count) (record { text = runs.text; first = first; good = runs.good + c.args.count })) (sym e.first) more
