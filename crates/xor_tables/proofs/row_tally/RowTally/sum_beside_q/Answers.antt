use Rattle.std.proofs.Common.{arith}
use Rattle.xor_tables.specs.Xors.{beside_q}
use Rattle.slot_math.proofs.Held.{sum_more}
use Rattle.xor_tables.proofs.row_tally.RowTally.sum_beside_q.Goals as goal

pub loop-turn-preserved : goal.loop-turn-preserved
loop-turn-preserved c =
    let more = sum_more (beside_q c.args.self.now c.args.head.now c.args.prefix.now) c.loop-turn.turn in
    let sum = c.loop-turn.invariant in
    let here = c.beside_q.ensures in
    let added = c.saturating_add-sum.ensures in
    omega arith
