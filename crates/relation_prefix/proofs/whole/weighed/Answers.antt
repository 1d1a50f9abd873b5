use Rattle.std.proofs.Common.{ℕ, ◌≡◌, ◌+◌, suc, get_or, ap, sym, ◌∙◌, arith}
use Rattle.gf256.specs.Field.{product}
use Rattle.row_relations.specs.Rows.{field_sum}
use Rattle.row_relations.proofs.FieldSums.{both, next_sum, no_sum}
use Rattle.relation_prefix.specs.Ties.{coefficients_of}
use Rattle.relation_prefix.proofs.Wholes.{weighed_whole}
use Rattle.relation_prefix.proofs.whole.weighed.Goals as goal

pub loop-t-init : goal.loop-t-init
loop-t-init c = sym (no_sum (λ t. product (get_or (coefficients_of c.args.ties.now c.args.image) t 0) (get_or c.args.values.now t 0)))

pub loop-t-preserved : goal.loop-t-preserved
loop-t-preserved c =
    let f = λ (t : ℕ). product (get_or (coefficients_of c.args.ties.now c.args.image) t 0) (get_or c.args.values.now t 0) in
    let next : suc c.loop-t.t ≡ c.loop-t.t + 1 = omega arith in
    both c.loop-t.sum c.mul-sum.result (field_sum c.loop-t.t f) (f c.loop-t.t) c.loop-t.invariant c.mul-sum.ensures ∙ sym (next_sum c.loop-t.t f) ∙ ap (λ (n : ℕ). field_sum n f) next

pub returns : goal.returns
returns c =
    let f = λ (t : ℕ). product (get_or (coefficients_of c.args.ties.now c.args.image) t 0) (get_or c.args.values.now t 0) in
    let all : c.loop-t.t ≡ c.args.ties.now.count = omega (arith, c.loop-t-test.false, c.loop-t.auto.t-end) in
    c.loop-t.invariant ∙ ap (λ (n : ℕ). field_sum n f) all ∙ sym (weighed_whole c.args.ties.now c.args.image (λ t. get_or c.args.values.now t 0) c.requires.ties c.requires.image)
