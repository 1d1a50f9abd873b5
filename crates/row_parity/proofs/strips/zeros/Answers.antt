use Rattle.row_parity.proofs.Lanes.{zeros_are, zeros_fit}
use Rattle.row_parity.proofs.strips.zeros.Goals as goal

pub returns-clause-fits : goal.returns-clause-fits
returns-clause-fits c = zeros_fit 64

pub returns-clause-lanes : goal.returns-clause-lanes
returns-clause-lanes c = zeros_are 64
