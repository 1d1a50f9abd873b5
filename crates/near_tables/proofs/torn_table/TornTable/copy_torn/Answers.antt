use Rattle.std.proofs.Common.{arith}
use Rattle.slot_math.proofs.Held.{sum_more}
use Rattle.near_mirror.proofs.Heads.{few_copies}
use Rattle.near_tables.specs.Tables.{pairs_torn}
use Rattle.near_tables.proofs.torn_table.TornTable.copy_torn.Goals as goal

pub overflow_add-torn : goal.overflow_add-torn
overflow_add-torn c =
    let few = c.loop-first.invariant.few in
    let lt = c.loop-first-test.true in
    let most = few_copies c.args.head.now c.requires.head in
    let second = c.requires.second in
    let short = c.pairs_torn-torn.ensures.few in
    omega arith

pub loop-first-preserved : goal.loop-first-preserved
loop-first-preserved c =
    let more = sum_more (pairs_torn c.args.self.now c.args.head.now c.args.slots.now c.args.second) c.loop-first.first in
    let is = c.loop-first.invariant.is in
    let few = c.loop-first.invariant.few in
    let told = c.pairs_torn-torn.ensures.value in
    let short = c.pairs_torn-torn.ensures.few in
    record { is = omega arith; few = omega arith }

pub returns-clause-few : goal.returns-clause-few
returns-clause-few c =
    let few = c.loop-first.invariant.few in
    let most = few_copies c.args.head.now c.requires.head in
    let second = c.requires.second in
    let within = c.loop-first-test.false in
    omega arith
