use Rattle.parity_scan.proofs.Factors.{block_factor, missing_factor, p_factor, q_factor}
use Rattle.parity_scan.proofs.equations.cell_factor.Goals as goal

pub returns-then-cell : goal.returns-then-cell
returns-then-cell c = λ byte. missing_factor c.args.mix c.args.cell byte c.if-cell.true

pub returns-in-Block : goal.returns-in-Block
returns-in-Block c = λ byte.
    block_factor c.args.mix c.args.cell c.in-Block.k c.power.result c.mul.result c.add.result byte c.requires.p c.requires.q c.if-cell.false c.in-Block.is c.power.ensures c.mul.ensures c.add.ensures

pub returns-in-P : goal.returns-in-P
returns-in-P c = λ byte. p_factor c.args.mix c.args.cell byte c.if-cell.false c.in-P.is

pub returns-in-Q : goal.returns-in-Q
returns-in-Q c = λ byte. q_factor c.args.mix c.args.cell byte c.if-cell.false c.in-Q.is
