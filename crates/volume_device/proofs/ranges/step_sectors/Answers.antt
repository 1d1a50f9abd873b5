use Rattle.std.proofs.Common.{◌/◌, ◌≤◌, arith}
use Rattle.std.proofs.lemmas.Nat.{le-div, mod_below}
use Rattle.volume_device.proofs.Rows.{step_part, step_rows}
use Rattle.volume_device.proofs.ranges.step_sectors.Goals as goal

pub returns-then-into-gt0 : goal.returns-then-into-gt0
returns-then-into-gt0 c =
    let below = mod_below c.args.sector c.args.row c.requires.row in
    step_part c.args.row c.args.most c.args.sector c.args.left c.min.result c.requires.row c.requires.most (λ none. absurd (omega arith)) (omega arith) (omega arith) (λ less. omega arith) (omega arith)

pub returns-then-left-row : goal.returns-then-left-row
returns-then-left-row c =
    step_part c.args.row c.args.most c.args.sector c.args.left c.args.left c.requires.row c.requires.most (λ none. omega arith) (omega arith) (omega arith) (λ less. absurd (omega arith)) c.requires.some

pub returns : goal.returns
returns c =
    let one : 1 ≤ c.args.left / c.args.row = le-div 1 c.args.left c.args.row c.requires.row (omega arith) in
    step_rows c.args.row c.args.most c.args.sector c.args.left c.min-2.result c.requires.row (omega arith) (omega arith) (omega arith) (omega arith)
