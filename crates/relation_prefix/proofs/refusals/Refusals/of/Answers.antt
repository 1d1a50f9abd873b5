use Rattle.std.proofs.Common.{◌<◌, ◌≤◌, ◌+◌, [], length, get_or, take, sym, subst, arith}
use Rattle.relation_prefix.specs.declared.refusals.Refusals.{Refusals}
use Rattle.relation_prefix.specs.declared.sampled.SampledRow.{SampledRow}
use Rattle.relation_prefix.specs.declared.weights.RowWeights.{RowWeights}
use Rattle.relation_prefix.specs.Joint.{AreRefusals}
use Rattle.relation_prefix.proofs.Refused.{all_refusals, more_refusals, same_refusals}
use Rattle.relation_prefix.proofs.refusals.Refusals.of.Goals as goal
use Rattle.relation_prefix.proofs.refusals.Refusals.of.Goals.{then-rows-number+in-Some+else-not-count, then-rows-number+in_default, else-rows-number}

abbrev no_row : SampledRow
no_row = record { row = 0; ties = record { images = 0; count = 0; dependents = []; zeros = []; coefficients = [] } }

abbrev no_weights : RowWeights
no_weights = record { p = []; q = [] }

pub returns-then-not-count : goal.returns-then-not-count
returns-then-not-count c =
    let rows = c.args.rows.now in
    let number = c.loop-number.number in
    let lt : number < length rows = omega (arith, c.loop-number-test.true) in
    all_refusals rows c.args.test.now c.args.slots.now (number + 1) c.count.new.self
    (more_refusals rows c.args.test.now c.args.slots.now number _ _ c.in-Some.lost c.loop-number.refusals c.count.new.self c.requires.level c.requires.short lt
    (c.requires.can.each number no_row no_weights lt) c.in-Some.ensures c.if-rows-number.true c.loop-number.invariant.are c.count.ensures.whole c.count.ensures.lost c.count.ensures.same)

pub loop-number-preserved : goal.loop-number-preserved
loop-number-preserved c =
    let rows = c.args.rows.now in
    let number = c.loop-number.number in
    let lt : number < length rows = omega (arith, c.loop-number-test.true) in
    let was = c.loop-number.invariant in
    let test = c.args.test.now in
    let slots = c.args.slots.now in
    elim c.if-rows-number.branch [
      | then-rows-number+in-Some+else-not-count w ↦ record {
        are = subst (λ (r : Refusals). AreRefusals (take (number + 1) rows) test slots r) (sym w.refusals-is)
            (more_refusals rows test slots number _ _ w.in-Some.lost c.loop-number.refusals w.count.new.self c.requires.level c.requires.short lt
            (c.requires.can.each number no_row no_weights lt) w.in-Some.ensures w.if-rows-number.true was.are w.count.ensures.whole w.count.ensures.lost w.count.ensures.same);
        few_whole = subst (λ (r : Refusals). r.whole ≤ number + 1) (sym w.refusals-is) (omega (arith, w.count.ensures.whole, was.few_whole));
        few_lost = λ slot. subst (λ (r : Refusals). get_or r.lost slot 0 ≤ number + 1) (sym w.refusals-is) (omega (arith, w.count.ensures.lost slot, was.few_lost slot));
      }
      | then-rows-number+in_default w ↦ record {
        are = subst (λ (r : Refusals). AreRefusals (take (number + 1) rows) test slots r) (sym w.refusals-is) (same_refusals rows test slots number no_row c.loop-number.refusals lt was.are);
        few_whole = subst (λ (r : Refusals). r.whole ≤ number + 1) (sym w.refusals-is) (omega (arith, was.few_whole));
        few_lost = λ slot. subst (λ (r : Refusals). get_or r.lost slot 0 ≤ number + 1) (sym w.refusals-is) (omega (arith, was.few_lost slot));
      }
      | else-rows-number w ↦ record {
        are = subst (λ (r : Refusals). AreRefusals (take (number + 1) rows) test slots r) (sym w.refusals-is) (same_refusals rows test slots number no_row c.loop-number.refusals lt was.are);
        few_whole = subst (λ (r : Refusals). r.whole ≤ number + 1) (sym w.refusals-is) (omega (arith, was.few_whole));
        few_lost = λ slot. subst (λ (r : Refusals). get_or r.lost slot 0 ≤ number + 1) (sym w.refusals-is) (omega (arith, was.few_lost slot));
      }
    ]
