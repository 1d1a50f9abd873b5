use Rattle.std.proofs.Common.{◌≡◌, ◌<◌, ◌≤◌, ◌+◌, ◌∙◌, List, [], count_by, length, take, arith, ap, sym}
use Rattle.std.proofs.lemmas.Bool.{le-leb, lt-leb}
use Rattle.std.proofs.lemmas.List.{take_all}
use Rattle.std.proofs.lemmas.List.Sums.{count_by_more_no, count_by_more_yes}
use Rattle.relation_prefix.specs.declared.sampled.SampledRow.{SampledRow}
use Rattle.relation_prefix.specs.Sampled.{refuses}
use Rattle.relation_prefix.proofs.Keeping.{count_few}
use Rattle.relation_prefix.proofs.beginning.few_refuse.Goals as goal
use Rattle.relation_prefix.proofs.beginning.few_refuse.Goals.{then-refuses+else-refused-test, else-refuses}

pub returns-then-refused-test : goal.returns-then-refused-test
returns-then-refused-test c =
    let rows = c.args.rows.now in
    let f = refuses c.args.test.now c.args.slots.now c.args.lost in
    let number = c.loop-number.number in
    let lt : number < length rows = omega (arith, c.loop-number-test.true) in
    let more : count_by f (take (number + 1) rows) ≡ count_by f (take number rows) + 1 = count_by_more_yes f rows number _ lt (sym c.refuses.ensures ∙ c.if-refuses.true) in
    let few : count_by f (take (number + 1) rows) ≤ count_by f rows = count_few f rows (number + 1) in
    sym (lt-leb (count_by f rows) c.args.test.now.badrows (omega (arith, c.if-refused-test.true, c.loop-number.invariant.count, more, few)))

pub loop-number-preserved : goal.loop-number-preserved
loop-number-preserved c =
    let rows = c.args.rows.now in
    let f = refuses c.args.test.now c.args.slots.now c.args.lost in
    let number = c.loop-number.number in
    let lt : number < length rows = omega (arith, c.loop-number-test.true) in
    elim c.if-refuses.branch [
      | then-refuses+else-refused-test w ↦ record {
        count = w.refused-is ∙ ap (λ n. n + 1) c.loop-number.invariant.count ∙ sym (count_by_more_yes f rows number _ lt (sym c.refuses.ensures ∙ w.if-refuses.true));
        few = omega (arith, w.refused-is, w.if-refused-test.false);
      }
      | else-refuses w ↦ record {
        count = w.refused-is ∙ c.loop-number.invariant.count ∙ sym (count_by_more_no f rows number _ lt (sym c.refuses.ensures ∙ w.if-refuses.false));
        few = omega (arith, w.refused-is, c.loop-number.invariant.few);
      }
    ]

pub returns : goal.returns
returns c =
    let rows = c.args.rows.now in
    let f = refuses c.args.test.now c.args.slots.now c.args.lost in
    let all : take c.loop-number.number rows ≡ rows = take_all c.loop-number.number rows (omega (arith, c.loop-number-test.false)) in
    let count = c.loop-number.invariant.count ∙ ap (λ (l : List SampledRow). count_by f l) all in
    sym (le-leb (count_by f rows) c.args.test.now.badrows (omega (arith, c.loop-number.invariant.few, count)))

pub refuses-requires-clause-weights : goal.refuses-requires-clause-weights
refuses-requires-clause-weights c =
    c.requires.can.each c.loop-number.number (record { row = 0; ties = record { images = 0; count = 0; dependents = []; zeros = []; coefficients = [] } }) (record { p = []; q = [] }) (omega (arith, c.loop-number-test.true))
