use Rattle.std.proofs.Common.{arith, ◌∙◌}
use Rattle.pq_parity.proofs.DataSums.{all_made, made_length, parity_more}
use Rattle.pq_parity.proofs.lost_parity.parity_lost.Goals as goal

pub push-requires : goal.push-requires
push-requires c = let n = made_length c.args.cells.now c.loop-place.by_data.items c.loop-place.place (omega arith) c.loop-place.invariant in omega arith

pub loop-place-preserved : goal.loop-place-preserved
loop-place-preserved c =
    c.push.ensures.items
    ∙ parity_more c.args.cells.now c.loop-place.by_data.items c.loop-place.place c.data_there.result c.loop-place-test.true c.loop-place.invariant c.data_there.ensures

pub returns : goal.returns
returns c = all_made c.args.cells.now c.loop-place.by_data.items c.loop-place.place (omega arith) c.loop-place.invariant
