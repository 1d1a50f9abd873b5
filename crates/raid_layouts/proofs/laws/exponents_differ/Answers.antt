use Rattle.raid_layouts.proofs.Powers.{exponents_differ as differ}
use Rattle.raid_layouts.proofs.laws.exponents_differ.Goals as goal

pub returns : goal.returns
returns c = differ
