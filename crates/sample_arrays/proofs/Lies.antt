-- The data lie by the address map.
use Rattle.std.proofs.Common.{◌/◌, refl}
use Rattle.address_map.proofs.Lies.{made_lies}
use Rattle.raid_terms.specs.Role.{item_of}
use Rattle.sample_arrays.specs.Laws.{DataLieWhereTheMapSays}

pub data_lie : DataLieWhereTheMapSays
data_lie head t item valid below = made_lies head (item_of head (t / head.chunk) item) t item valid (below, refl)
