use Rattle.std.proofs.Common.{arith}
use Rattle.parity_scan.proofs.Factors.{same_zeros}
use Rattle.parity_scan.proofs.equations.normal.Goals as goal

pub returns-then-factors-image-ne0 : goal.returns-then-factors-image-ne0
returns-then-factors-image-ne0 c = λ f.
    same_zeros f c.args.factors.now c.scaled.result _ c.inverse.result c.fits-factors (omega arith) c.inverse.ensures.inverse (c.scaled.ensures f)
