use Rattle.std.proofs.Common.{arith}
use Rattle.address_map.proofs.Lies.{place_at}
use Rattle.address_map.proofs.map.place.Goals as goal

pub returns-in-Block : goal.returns-in-Block
returns-in-Block c = place_at c.args.head.now c.args.end c.args.slot c.args.sector c.in-Block.item c.volume_sector.result c.requires.head (omega arith) c.in-Block.ensures c.volume_sector.ensures
