use Rattle.parity_scan.proofs.Factors.{none_known}
use Rattle.parity_scan.proofs.known_rows.KnownRows.none.Goals as goal

pub returns : goal.returns
returns c = λ room place. none_known room place
