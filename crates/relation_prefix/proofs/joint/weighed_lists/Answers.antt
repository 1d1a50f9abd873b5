use Rattle.std.proofs.Common.{sym, ap, ◌∙◌, arith, get_or, inl, inr}
use Rattle.std.proofs.lemmas.Bool.{cases_lt}
use Rattle.gf256.specs.Field.{product}
use Rattle.gf256.proofs.Products.{product_zero}
use Rattle.row_relations.proofs.FieldSums.{both}
use Rattle.relation_prefix.proofs.joint.weighed_lists.Goals as goal

pub returns-clause-sums : goal.returns-clause-sums
returns-clause-sums c t =
    let f = c.args.f in
    let g = c.args.g in
    elim (cases_lt t c.args.count) [
      | inl below ↦ c.loop-t.invariant.done t (omega (arith, c.loop-t-test.false))
      | inr past ↦ c.loop-t.invariant.rest t (omega (arith, c.loop-t.auto.t-end))
          ∙ sym (both (product f (get_or c.args.one.now t 0)) (product g (get_or c.args.other.now t 0)) 0 0
          (ap (product f) (c.requires.one t past) ∙ product_zero f) (ap (product g) (c.requires.other t past) ∙ product_zero g))
    ]
