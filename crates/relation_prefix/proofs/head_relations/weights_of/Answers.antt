use Rattle.std.proofs.Common.{rules, ◌≡◌, ◌+◌, ◌++◌, ◌∷◌, [], List, length, length-append, arith, ap, subst, sym}
use Rattle.relation_prefix.specs.declared.sampled.SampledRow.{SampledRow}
use Rattle.relation_prefix.specs.declared.weights.RowWeights.{RowWeights}
use Rattle.relation_prefix.specs.Sampled.{AreAllWeights}
use Rattle.relation_prefix.proofs.Keeping.{weights_push}
use Rattle.relation_prefix.proofs.Left.{some_chunk}
use Rattle.relation_prefix.proofs.head_relations.weights_of.Goals as goal

pub nonzero_div-rows : goal.nonzero_div-rows
nonzero_div-rows c = some_chunk c.args.test.now.head c.requires.valid

pub loop-number-preserved : goal.loop-number-preserved
loop-number-preserved c =
    let rows = c.args.rows.now in
    let head = c.args.test.now.head in
    let number = c.loop-number.number in
    let weights = c.loop-number.weights.items in
    let own = c.of-row.result in
    let d : SampledRow = record { row = 0; ties = record { images = 0; count = 0; dependents = []; zeros = []; coefficients = [] } } in
    let pushed : c.push.new.self.items ≡ weights ++ own ∷ [] = search rules in
    let count : length c.push.new.self.items ≡ length (weights ++ own ∷ []) = ap (λ (l : List RowWeights). length l) pushed in
    let more : length (weights ++ own ∷ []) ≡ length weights + length (own ∷ []) = length-append weights (own ∷ []) in
    let before : length weights ≡ number = c.loop-number.invariant.long in
    record {
      long = omega arith;
      weights = subst (λ (l : List RowWeights). AreAllWeights head rows (number + 1) l) (sym pushed)
          (weights_push head rows number weights own d before (omega (arith, c.loop-number-test.true)) c.loop-number.invariant.weights c.of-row.ensures);
    }

pub returns : goal.returns
returns c =
    let same : c.loop-number.number ≡ length c.args.rows.now = omega (arith, c.loop-number-test.false, c.loop-number.auto.number-end) in
    record {
      valid = c.requires.valid;
      fit = c.requires.fit;
      long = omega (arith, c.loop-number.invariant.long);
      each = λ number none blank lt. c.loop-number.invariant.weights number none blank (omega arith);
    }
