use Rattle.std.proofs.Common.{◌/◌, arith}
use Rattle.address_map.proofs.Heads.{few_data, some_data}
use Rattle.address_map.proofs.Lies.{home_is, home_small, item_in_row}
use Rattle.address_map.proofs.map.locate.Goals as goal

pub nonzero_div-row : goal.nonzero_div-row
nonzero_div-row c = let some = some_data c.args.head.now c.requires.head in omega arith

pub overflow_cast-item : goal.overflow_cast-item
overflow_cast-item c =
    let few = few_data c.args.head.now c.requires.head in
    let below = item_in_row c.args.head.now (c.args.volume_sector / c.args.head.now.chunk) c.data_blocks-data.result c.requires.head c.data_blocks-data.ensures in
    omega arith

pub slot_of_item-requires-clause-item : goal.slot_of_item-requires-clause-item
slot_of_item-requires-clause-item c = item_in_row c.args.head.now _ c.data_blocks-data.result c.requires.head c.data_blocks-data.ensures

pub overflow_mul-result : goal.overflow_mul-result
overflow_mul-result c = let small = home_small c.args.head.now c.args.volume_sector c.data_blocks-data.result c.requires.head c.data_blocks-data.ensures in omega arith

pub overflow_add-result : goal.overflow_add-result
overflow_add-result c = let small = home_small c.args.head.now c.args.volume_sector c.data_blocks-data.result c.requires.head c.data_blocks-data.ensures in omega arith

pub returns : goal.returns
returns c = home_is c.args.head.now c.args.end c.args.volume_sector c.data_blocks-data.result c.slot_of_item.result c.requires.head c.data_blocks-data.ensures (omega arith) c.slot_of_item.ensures.there
