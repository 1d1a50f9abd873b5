use Rattle.address_map.proofs.Undo.{places_and_homes}
use Rattle.address_map.proofs.laws.places_and_homes_undo.Goals as goal

pub returns : goal.returns
returns c = places_and_homes
