use Rattle.std.proofs.Common.{arith}
use Rattle.parity_scan.proofs.Factors.{factor_added, nothing_added}
use Rattle.parity_scan.proofs.equations.add_factor.Goals as goal

pub returns-in_default-clause-added : goal.returns-in_default-clause-added
returns-in_default-clause-added c = λ done f. nothing_added f c.args.factors.now c.args.factor c.args.held c.in_default.is

pub returns-clause-added : goal.returns-clause-added
returns-clause-added c = λ done f.
    factor_added f c.args.factors.now c.in-Some.image c.args.factor c.add.result c.args.held (omega arith) c.requires (omega arith) c.ranges.factor.fits c.add.ensures c.in-Some.is
