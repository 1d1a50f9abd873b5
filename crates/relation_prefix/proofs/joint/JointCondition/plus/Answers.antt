use Rattle.std.proofs.Common.{ap, ◌∙◌, get_or}
use Rattle.gf256.specs.Field.{product}
use Rattle.gf256.proofs.Products.{product_zero}
use Rattle.row_relations.proofs.FieldSums.{both}
use Rattle.relation_prefix.proofs.joint.JointCondition.plus.Goals as goal

pub returns-clause-asks : goal.returns-clause-asks
returns-clause-asks c =
    let f = c.args.f in
    let g = c.args.g in
    let mine = c.args.self.now.coefficients in
    let its = c.args.other.now.coefficients in
    record {
      bytes = c.weighed_lists.ensures.bytes;
      past = λ t past. c.weighed_lists.ensures.sums t
          ∙ both (product f (get_or mine t 0)) (product g (get_or its t 0)) 0 0 (ap (product f) (c.requires.own.past t past) ∙ product_zero f) (ap (product g) (c.requires.other.past t past) ∙ product_zero g);
    }
