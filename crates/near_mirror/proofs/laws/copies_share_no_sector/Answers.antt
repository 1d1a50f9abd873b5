use Rattle.near_mirror.proofs.Apart.{share_none}
use Rattle.near_mirror.proofs.laws.copies_share_no_sector.Goals as goal

pub returns : goal.returns
returns c = share_none
