use Rattle.near_tables.proofs.Prefixes.{prefixes_less}
use Rattle.near_tables.proofs.laws.prefixes_are_torn_less.Goals as goal

pub returns : goal.returns
returns c = prefixes_less
