use Rattle.std.proofs.Common.{◌<◌, ◌+◌, ◌*◌, ◌^◌, arith}
use Rattle.address_map.proofs.Lies.{sector_fits}
use Rattle.address_map.proofs.map.volume_sector.Goals as goal

pub overflow_mul-result-2 : goal.overflow_mul-result-2
overflow_mul-result-2 c =
    let h : (c.args.row * c.data_blocks.result + c.args.item) * c.args.head.now.chunk + c.args.at < 2 ^ 64
    = sector_fits c.args.head.now c.args.row c.args.item c.args.at c.data_blocks.result c.requires.head c.requires.row c.requires.item c.requires.at c.data_blocks.ensures in
    omega arith

pub overflow_add-result-2 : goal.overflow_add-result-2
overflow_add-result-2 c =
    let h : (c.args.row * c.data_blocks.result + c.args.item) * c.args.head.now.chunk + c.args.at < 2 ^ 64
    = sector_fits c.args.head.now c.args.row c.args.item c.args.at c.data_blocks.result c.requires.head c.requires.row c.requires.item c.requires.at c.data_blocks.ensures in
    omega arith
