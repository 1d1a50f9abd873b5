use Rattle.parity_scan.proofs.Factors.{factors_decide}
use Rattle.parity_scan.proofs.equations.row_factors.Goals as goal

pub returns : goal.returns
returns c =
    factors_decide c.args.cells.now c.args.slots.now c.in_ok-mix.mix c.in_ok-factors.factors c.normal.result c.requires.slots c.in_ok-mix.ensures c.in_ok-factors.ensures c.normal.ensures
