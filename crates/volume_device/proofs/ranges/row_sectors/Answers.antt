use Rattle.std.proofs.Common.{◌≤◌, ◌*◌, arith}
use Rattle.std.proofs.lemmas.Nat.{mul-le}
use Rattle.address_map.proofs.Heads.{few_data, short_chunk}
use Rattle.volume_device.proofs.ranges.row_sectors.Goals as goal

pub overflow_mul-result : goal.overflow_mul-result
overflow_mul-result c =
    let few = few_data c.args.head.now c.requires in
    let most : c.data_blocks.result * c.args.head.now.chunk ≤ 24 * 32768 = mul-le c.data_blocks.result c.args.head.now.chunk 24 32768 (omega (arith, c.data_blocks.ensures)) (short_chunk c.args.head.now c.requires) in
    omega arith
