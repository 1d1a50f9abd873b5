use Rattle.std.proofs.Common.{◌≡◌, cond, arith}
use Rattle.slot_math.proofs.Held.{sum_more}
use Rattle.near_tables.specs.Reading.{regions_differ}
use Rattle.near_tables.proofs.torn_strips.torn_in.Goals as goal

pub overflow_add-torn : goal.overflow_add-torn
overflow_add-torn c = let few = c.loop-j.invariant.few in let one = c.one_if-torn.ensures.few in let lt = c.loop-j-test.true in let fits = c.ranges.count.fits in omega arith

pub loop-j-preserved : goal.loop-j-preserved
loop-j-preserved c =
    let more = sum_more (λ j. cond (regions_differ c.args.first.now c.args.one c.args.second.now c.args.other j) 1 0) c.loop-j.j in
    let is = c.loop-j.invariant.is in
    let few = c.loop-j.invariant.few in
    let here = c.are_torn.ensures in
    let value = c.one_if-torn.ensures.value in
    let one = c.one_if-torn.ensures.few in
    record { is = (let e : c.one_if-torn.result ≡ cond (regions_differ c.args.first.now c.args.one c.args.second.now c.args.other c.loop-j.j) 1 0 = rw (value, here) (omega arith) in omega arith); few = omega arith }
