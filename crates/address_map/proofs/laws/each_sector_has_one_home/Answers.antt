use Rattle.address_map.proofs.Undo.{one_home}
use Rattle.address_map.proofs.laws.each_sector_has_one_home.Goals as goal

pub returns : goal.returns
returns c = one_home
