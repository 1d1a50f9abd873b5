use Rattle.std.proofs.Common.{arith}
use Rattle.slot_math.proofs.Held.{sum_more}
use Rattle.near_mirror.proofs.Heads.{few_members}
use Rattle.near_tables.specs.Tables.{pair_torn}
use Rattle.near_tables.proofs.torn_table.TornTable.pairs_torn.Goals as goal

pub overflow_add-torn : goal.overflow_add-torn
overflow_add-torn c =
    let few = c.loop-chunk.invariant.few in
    let lt = c.loop-chunk-test.true in
    let most = few_members c.args.head.now c.requires.head in
    let here = c.from-torn.ensures in
    let short = c.pair_torn.type_inv in
    omega arith

pub loop-chunk-preserved : goal.loop-chunk-preserved
loop-chunk-preserved c =
    let more = sum_more (pair_torn c.args.self.now c.args.head.now c.args.slots.now c.args.first c.args.second) c.loop-chunk.chunk in
    let is = c.loop-chunk.invariant.is in
    let few = c.loop-chunk.invariant.few in
    let here = c.from-torn.ensures in
    let told = c.pair_torn.ensures in
    let short = c.pair_torn.type_inv in
    record { is = omega arith; few = omega arith }

pub returns-clause-few : goal.returns-clause-few
returns-clause-few c =
    let few = c.loop-chunk.invariant.few in
    let most = few_members c.args.head.now c.requires.head in
    let within = c.loop-chunk-test.false in
    omega arith
