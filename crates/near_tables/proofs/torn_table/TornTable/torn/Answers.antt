use Rattle.std.proofs.Common.{arith}
use Rattle.slot_math.proofs.Held.{sum_more}
use Rattle.near_mirror.proofs.Heads.{few_copies}
use Rattle.near_tables.specs.Tables.{copy_torn}
use Rattle.near_tables.proofs.torn_table.TornTable.torn.Goals as goal

pub overflow_add-torn : goal.overflow_add-torn
overflow_add-torn c =
    let few = c.loop-second.invariant.few in
    let lt = c.loop-second-test.true in
    let most = few_copies c.args.head.now c.requires.head in
    let short = c.copy_torn-torn.ensures.few in
    omega arith

pub loop-second-preserved : goal.loop-second-preserved
loop-second-preserved c =
    let more = sum_more (copy_torn c.args.self.now c.args.head.now c.args.slots.now) c.loop-second.second in
    let is = c.loop-second.invariant.is in
    let few = c.loop-second.invariant.few in
    let told = c.copy_torn-torn.ensures.value in
    let short = c.copy_torn-torn.ensures.few in
    record { is = omega arith; few = omega arith }
