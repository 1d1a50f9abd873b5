use Rattle.near_mirror.proofs.Apart.{apart}
use Rattle.near_mirror.proofs.laws.copies_are_apart.Goals as goal

pub returns : goal.returns
returns c = apart
