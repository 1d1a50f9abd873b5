use Rattle.std.proofs.Common.{◌≡◌, arith}
use Rattle.raid_params.specs.Size.{data_blocks}
use Rattle.sample_arrays.proofs.Sums.{p_is}
use Rattle.sample_arrays.specs.Marks.{volume_sector}
use Rattle.sample_arrays.proofs.members.p_sector.Goals as goal

pub returns : goal.returns
returns c =
    let count = c.data_blocks-item-end.ensures in
    let end = c.loop-item-test.false in
    let within = c.loop-item.auto.item-end in
    let all : c.loop-item.item ≡ data_blocks c.args.head.now = omega arith in
    record {
      sum = p_is (volume_sector c.args.filling.now.number c.args.filling.now.blocks) c.args.head.now c.args.sector c.loop-item.item c.loop-item.sum all c.loop-item.invariant.0;
    }
