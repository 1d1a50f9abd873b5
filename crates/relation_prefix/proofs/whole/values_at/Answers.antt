use Rattle.std.proofs.Common.{◌∙◌, length, arith}
use Rattle.std.proofs.Math.ListN.{length-set}
use Rattle.relation_prefix.proofs.Wholes.{byte_set, value_is, value_set}
use Rattle.relation_prefix.proofs.whole.values_at.Goals as goal

pub loop-t-preserved : goal.loop-t-preserved
loop-t-preserved c =
    let was = c.loop-t.invariant in
    let ties = c.args.ties.now in
    let few = c.requires.ties.count in
    let inside = c.loop-t-test.true in
    record {
      long = length-set c.loop-t.values c.loop-t.t c.image_weight.result ∙ was.long;
      bytes = byte_set c.loop-t.values c.loop-t.t c.image_weight.result was.bytes (omega arith);
      values = λ x have. value_set x c.loop-t.values c.loop-t.t c.image_weight.result (omega (arith, was.long)) (was.values x have)
          (value_is ties c.loop-t.t (length c.args.slots.now) c.image_weight.result x c.args.weights.now c.args.slots.now c.requires.ties inside have
          (c.image_weight.ensures ties x have (c.requires.ties.dependents c.loop-t.t inside).there));
    }
