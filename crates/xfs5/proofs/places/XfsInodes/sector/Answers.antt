use Rattle.std.proofs.Common.{◌+◌, ◌*◌, ◌/◌, ◌<◌, ◌^◌, arith}
use Rattle.xfs5.proofs.Limits.{before_most, parts_below, sector_below}
use Rattle.xfs5.proofs.places.XfsInodes.sector.Goals as goal

pub overflow_mul-within : goal.overflow_mul-within
overflow_mul-within c =
    let x = c.args.self.now in
    let before : c.args.group * x.ag_blocks + c.args.block < x.ag_blocks * x.ag_count = before_most c.args.group c.args.block x.ag_blocks x.ag_count c.requires.group c.requires.block in
    let part : c.args.index * (x.inode / 512) < 2 ^ 55 = (parts_below x (c.args.group * x.ag_blocks + c.args.block) c.args.index c.requires.sound before c.requires.index).1 in
    omega arith

pub overflow_mul-result : goal.overflow_mul-result
overflow_mul-result c =
    let x = c.args.self.now in
    let before : c.args.group * x.ag_blocks + c.args.block < x.ag_blocks * x.ag_count = before_most c.args.group c.args.block x.ag_blocks x.ag_count c.requires.group c.requires.block in
    let part : (c.args.group * x.ag_blocks + c.args.block) * (x.block / 512) < 2 ^ 55 = (parts_below x (c.args.group * x.ag_blocks + c.args.block) c.args.index c.requires.sound before c.requires.index).0 in
    omega arith

pub overflow_add-result : goal.overflow_add-result
overflow_add-result c =
    let x = c.args.self.now in
    let before : c.args.group * x.ag_blocks + c.args.block < x.ag_blocks * x.ag_count = before_most c.args.group c.args.block x.ag_blocks x.ag_count c.requires.group c.requires.block in
    let all : (c.args.group * x.ag_blocks + c.args.block) * (x.block / 512) + c.args.index * (x.inode / 512) < 2 ^ 55 = sector_below x (c.args.group * x.ag_blocks + c.args.block) c.args.index c.requires.sound before c.requires.index in
    omega arith

pub returns-clause-within : goal.returns-clause-within
returns-clause-within c =
    let x = c.args.self.now in
    let before : c.args.group * x.ag_blocks + c.args.block < x.ag_blocks * x.ag_count = before_most c.args.group c.args.block x.ag_blocks x.ag_count c.requires.group c.requires.block in
    sector_below x (c.args.group * x.ag_blocks + c.args.block) c.args.index c.requires.sound before c.requires.index
