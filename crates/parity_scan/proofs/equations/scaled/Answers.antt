use Rattle.std.proofs.Common.{arith}
use Rattle.parity_scan.proofs.Factors.{factors_scaled}
use Rattle.parity_scan.proofs.equations.scaled.Goals as goal

pub returns : goal.returns
returns c = λ f. factors_scaled f c.args.factors.now c.loop-image.scaled c.args.by 24 c.ranges.by.fits c.fits-factors (λ i below. c.loop-image.invariant.done i (omega arith))
