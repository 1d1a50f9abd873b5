use Rattle.address_map.proofs.Undo.{one_place}
use Rattle.address_map.proofs.laws.each_sector_has_one_place.Goals as goal

pub returns : goal.returns
returns c = one_place
