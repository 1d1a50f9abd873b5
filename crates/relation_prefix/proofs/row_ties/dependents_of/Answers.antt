use Rattle.std.proofs.Common.{ℕ, ◌≡◌, ◌<◌, ◌+◌, List, [], ◌∷◌, length, sym, ap, ◌∙◌, arith}
use Rattle.std.proofs.lemmas.Bool.{eqb-true, eqb-false}
use Rattle.std.proofs.lemmas.List.{length-append}
use Rattle.arrayvec.specs.ArrayVec.{ArrayVec}
use Rattle.relation_prefix.proofs.Dependents.{one_off, one_on, too_many}
use Rattle.relation_prefix.proofs.row_ties.dependents_of.Goals as goal
use Rattle.relation_prefix.proofs.row_ties.dependents_of.Goals.{then-is_dependent_at+else-is_full, else-is_dependent_at}

pub returns-then-is_full : goal.returns-then-is_full
returns-then-is_full c =
    let full : length c.loop-image.list.items ≡ 8 = eqb-true (length c.loop-image.list.items) 8 (sym c.is_full.ensures.value ∙ c.if-is_full.true) in
    too_many c.args.table.now c.loop-image.image (length c.args.table.now.standings) c.loop-image.list.items c.loop-image.invariant.items full (sym c.is_dependent_at.ensures ∙ c.if-is_dependent_at.true)
    (omega (arith, c.loop-image-test.true, c.images-image-end.ensures.images))

pub loop-image-preserved : goal.loop-image-preserved
loop-image-preserved c = elim c.if-is_dependent_at.branch [
  | then-is_dependent_at+else-is_full w ↦
      (let was = c.loop-image.invariant in
      let not_full = eqb-false (length c.loop-image.list.items) 8 (sym w.is_full.ensures.value ∙ w.if-is_full.false) in
      let long : length w.push.new.self.items ≡ length c.loop-image.list.items + 1 = ap (λ (l : List ℕ). length l) w.push.ensures.items ∙ length-append c.loop-image.list.items (c.loop-image.image ∷ []) in
      record {
        items = ap (λ (l : ArrayVec ℕ). l.items) w.list-is ∙ w.push.ensures.items ∙ one_on c.args.table.now c.loop-image.image c.loop-image.list.items was.items (sym c.is_dependent_at.ensures ∙ w.if-is_dependent_at.true);
        few = (let same = ap (λ (l : ArrayVec ℕ). length l.items) w.list-is in let less : length c.loop-image.list.items < 8 = omega (arith, not_full, was.few) in omega arith);
      })
  | else-is_dependent_at w ↦
      (let was = c.loop-image.invariant in
      record {
        items = ap (λ (l : ArrayVec ℕ). l.items) w.list-is ∙ one_off c.args.table.now c.loop-image.image c.loop-image.list.items was.items (sym c.is_dependent_at.ensures ∙ w.if-is_dependent_at.false);
        few = (let same = ap (λ (l : ArrayVec ℕ). length l.items) w.list-is in let few = was.few in omega arith);
      })
]
