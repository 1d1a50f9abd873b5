use Rattle.std.proofs.Common.{ℕ, ◌≡◌, ◌+◌, ◌<◌, List, [], length, get_or, slice_index_or, refl, sym, ap, subst, ◌∙◌, arith, inl, inr}
use Rattle.std.proofs.lemmas.Bool.{cases_lt}
use Rattle.std.proofs.lemmas.List.{get_or_default}
use Rattle.row_relations.specs.declared.combination.Combination.{Combination}
use Rattle.row_relations.specs.Stages.{IsRest}
use Rattle.row_relations.proofs.Rests.{rest_added, vanish_kept, vanish_more}
use Rattle.row_relations.proofs.elimination.reduce.Goals as goal
use Rattle.row_relations.proofs.elimination.reduce.Goals.{then-factor-ne0, else-factor-ne0}

-- the part by another default
part_at : (kept : List Combination) (i : ℕ) (d e : Combination) → i < length kept → slice_index_or kept i d ≡ slice_index_or kept i e
part_at kept i d e lt = get_or_default kept i d e lt

-- what vanishes at the first pivots, and then at one more
more_vanish : (kept : List Combination) (new : List ℕ) (i : ℕ) (e : Combination) → i < length kept →
    ((k : ℕ) (d : Combination) → k < i → get_or new (slice_index_or kept k d).pivot 0 ≡ 0) → get_or new (slice_index_or kept i e).pivot 0 ≡ 0 →
    (k : ℕ) (d : Combination) → k < i + 1 → get_or new (slice_index_or kept k d).pivot 0 ≡ 0
more_vanish kept new i e lt below here k d le = elim (cases_lt k i) [
  | inl first ↦ below k d first
  | inr last ↦
      (let same : k ≡ i = omega arith in
      ap (λ (m : ℕ). get_or new (slice_index_or kept m d).pivot 0) same ∙ ap (λ (x : Combination). get_or new x.pivot 0) (part_at kept i d e lt) ∙ here)
]

pub loop-part-preserved : goal.loop-part-preserved
loop-part-preserved c = elim c.if-factor-ne0.branch [
  | then-factor-ne0 w ↦
      (let kept = c.args.kept.now in
      let i = c.loop-part.part-index in
      let none : Combination = record { pivot = 0; sector = []; weights = [] } in
      let part = slice_index_or kept i none in
      let old = c.loop-part.rest in
      let new = w.add.new.self in
      let factor = get_or old.sector part.pivot 0 in
      let lt : i < length kept = c.loop-part-test.true in
      let s = w.add.ensures in
      record {
        wide = ap (λ (x : Combination). length x.sector) w.rest-is ∙ s.long;
        rest = λ sectors table n bytes few are rest. subst (λ (x : Combination). IsRest sectors table n x) (sym w.rest-is)
            (rest_added sectors table n factor old part new s.fits s.same s.other (c.loop-part.invariant.rest sectors table n bytes few are rest) (are i none lt) s.sector s.weights);
        vanish = λ ones cleared. subst (λ (x : Combination). (k : ℕ) (d : Combination) → k < i + 1 → get_or x.sector (slice_index_or kept k d).pivot 0 ≡ 0) (sym w.rest-is)
            (more_vanish kept new.sector i none lt
            (λ k d below. vanish_kept factor (slice_index_or kept k d).pivot old.sector part.sector new.sector s.same s.other s.sector (c.loop-part.invariant.vanish ones cleared k d below)
            (ap (λ (x : Combination). get_or x.sector (slice_index_or kept k d).pivot 0) (part_at kept i none d lt) ∙ cleared k i d below lt))
            (vanish_more factor part.pivot old.sector part.sector new.sector s.fits s.same s.other s.sector refl (ones i none lt)));
      })
  | else-factor-ne0 w ↦
      (let kept = c.args.kept.now in
      let i = c.loop-part.part-index in
      let none : Combination = record { pivot = 0; sector = []; weights = [] } in
      let old = c.loop-part.rest in
      record {
        wide = ap (λ (x : Combination). length x.sector) w.rest-is ∙ c.loop-part.invariant.wide;
        rest = λ sectors table n bytes few are rest. subst (λ (x : Combination). IsRest sectors table n x) (sym w.rest-is) (c.loop-part.invariant.rest sectors table n bytes few are rest);
        vanish = λ ones cleared. subst (λ (x : Combination). (k : ℕ) (d : Combination) → k < i + 1 → get_or x.sector (slice_index_or kept k d).pivot 0 ≡ 0) (sym w.rest-is)
            (more_vanish kept old.sector i none c.loop-part-test.true (c.loop-part.invariant.vanish ones cleared) w.if-factor-ne0.false);
      })
]
