use Rattle.std.proofs.Common.{ℕ, ◌≡◌, ◌<◌, ◌+◌, ◌↔◌, List, Option, None, Some, get_or, slice_index_or, slice_set, refl, sym, ap, subst, ◌∙◌, arith, inl, inr, bit_xor}
use Rattle.std.proofs.lemmas.Bool.{cases_lt, eqb-true, eqb-false}
use Rattle.gf256.proofs.Sums.{equal_from_sum, sum_self}
use Rattle.relation_prefix.specs.declared.condition.Condition.{Condition}
use Rattle.relation_prefix.specs.Systems.{sum_at, IsSolvable, IsTriangular, Meets, Solves}
use Rattle.relation_prefix.proofs.Systems.{cleared_more, kept_added, kept_triangular, left_added, left_first, left_value, solvable, IsLeft}
use Rattle.relation_prefix.proofs.system.System.add.Goals as goal
use Rattle.relation_prefix.proofs.system.System.add.Goals.{then-factor-ne0+in-Some, else-factor-ne0}

pub loop-at-init : goal.loop-at-init
loop-at-init c = record {
  same = refl;
  left = left_first c.args.self.now.conditions c.args.condition.now c.requires.bytes c.requires.value;
  cleared = λ u lt. absurd (omega arith);
}

pub returns-in_default-clause-triangular : goal.returns-in_default-clause-triangular
returns-in_default-clause-triangular c =
    let was = c.loop-at.invariant in
    let at = c.loop-at.at in
    let new = c.scale.new.self in
    let old = c.args.self.now.conditions in
    let free : slice_index_or old at None ≡ None = sym (ap (λ (cs : List (Option Condition)). slice_index_or cs at None) was.same) ∙ c.in_default.is in
    subst (λ (cs : List (Option Condition)). IsTriangular (slice_set cs at (Some new))) (sym was.same)
    (kept_triangular old c.args.condition.now c.loop-at.rest new at c.inverse.result c.requires.triangular free c.loop-at-test.true was.left was.cleared c.inverse.type_inv c.inverse.ensures.inverse
    c.scale.ensures.products c.scale.ensures.value c.scale.ensures.bytes)

pub returns-in_default-clause-solvable : goal.returns-in_default-clause-solvable
returns-in_default-clause-solvable c =
    let was = c.loop-at.invariant in
    let at = c.loop-at.at in
    let new = c.scale.new.self in
    let old = c.args.self.now.conditions in
    let free : slice_index_or old at None ≡ None = sym (ap (λ (cs : List (Option Condition)). slice_index_or cs at None) was.same) ∙ c.in_default.is in
    solvable (slice_set c.loop-at.self.conditions at (Some new)) (subst (λ (cs : List (Option Condition)). IsTriangular (slice_set cs at (Some new))) (sym was.same)
    (kept_triangular old c.args.condition.now c.loop-at.rest new at c.inverse.result c.requires.triangular free c.loop-at-test.true was.left was.cleared c.inverse.type_inv c.inverse.ensures.inverse
    c.scale.ensures.products c.scale.ensures.value c.scale.ensures.bytes))

pub returns-in_default-clause-added : goal.returns-in_default-clause-added
returns-in_default-clause-added c e x hx =
    let was = c.loop-at.invariant in
    let at = c.loop-at.at in
    let new = c.scale.new.self in
    let old = c.args.self.now.conditions in
    let free : slice_index_or old at None ≡ None = sym (ap (λ (cs : List (Option Condition)). slice_index_or cs at None) was.same) ∙ c.in_default.is in
    subst (λ (cs : List (Option Condition)). Solves x (slice_set cs at (Some new)) ↔ (Solves x old × Meets x c.args.condition.now)) (sym was.same)
    (kept_added old c.args.condition.now c.loop-at.rest new at c.inverse.result c.requires.triangular free c.loop-at-test.true was.left was.cleared c.inverse.type_inv c.inverse.ensures.inverse
    c.scale.ensures.products c.scale.ensures.value c.scale.ensures.bytes x hx)

pub returns-clause-contradiction : goal.returns-clause-contradiction
returns-clause-contradiction c e x hx old meets =
    let was = c.loop-at.invariant in
    let value = left_value c.args.self.now.conditions c.args.condition.now c.loop-at.rest was.left (λ u lt. was.cleared u (omega arith)) x hx old in
    eqb-false c.loop-at.rest.value 0 e (value ∙ ap (λ (r : ℕ). bit_xor r c.args.condition.now.value) meets ∙ sum_self c.args.condition.now.value)

pub returns-clause-added : goal.returns-clause-added
returns-clause-added c e x hx =
    let was = c.loop-at.invariant in
    let condition = c.args.condition.now in (
      λ h.
          (let old : Solves x c.args.self.now.conditions = subst (λ (cs : List (Option Condition)). Solves x cs) was.same h in
          let value = left_value c.args.self.now.conditions condition c.loop-at.rest was.left (λ u lt. was.cleared u (omega arith)) x hx old in
          (old, equal_from_sum (sum_at condition.coefficients x) condition.value (sym value ∙ eqb-true c.loop-at.rest.value 0 e))),
      λ both. subst (λ (cs : List (Option Condition)). Solves x cs) (sym was.same) both.0,
    )

pub returns-clause-solvable : goal.returns-clause-solvable
returns-clause-solvable c =
    subst (λ (cs : List (Option Condition)). IsSolvable cs) (sym c.loop-at.invariant.same) (solvable c.args.self.now.conditions c.requires.triangular)

pub loop-at-preserved : goal.loop-at-preserved
loop-at-preserved c = elim c.if-factor-ne0.branch [
  | then-factor-ne0+in-Some w ↦
      (let was = c.loop-at.invariant in
      let at = c.loop-at.at in
      let rest = c.loop-at.rest in
      let known = w.in-Some.known in
      let new = w.add.new.self in
      let s = w.add.ensures in
      let there : slice_index_or c.args.self.now.conditions at None ≡ Some known = sym (ap (λ (cs : List (Option Condition)). slice_index_or cs at None) was.same) ∙ w.in-Some.is in
      record {
        same = was.same;
        left = subst (λ (r : Condition). IsLeft c.args.self.now.conditions c.args.condition.now r) (sym w.rest-is)
            (left_added c.args.self.now.conditions c.args.condition.now rest known new at (get_or rest.coefficients at 0) c.requires.triangular there s.fits was.left s.sums s.value s.bytes);
        cleared = subst (λ (r : Condition). (u : ℕ) → u < at + 1 → get_or r.coefficients u 0 ≡ 0) (sym w.rest-is)
            (cleared_more c.args.self.now.conditions rest known new at c.requires.triangular there c.loop-at-test.true was.left.bytes was.cleared s.sums);
      })
  | else-factor-ne0 w ↦
      (let was = c.loop-at.invariant in
      let at = c.loop-at.at in
      record {
        same = was.same;
        left = subst (λ (r : Condition). IsLeft c.args.self.now.conditions c.args.condition.now r) (sym w.rest-is) was.left;
        cleared = subst (λ (r : Condition). (u : ℕ) → u < at + 1 → get_or r.coefficients u 0 ≡ 0) (sym w.rest-is)
            (λ u lt. elim (cases_lt u at) [
              | inl below ↦ was.cleared u below
              | inr past ↦ (let e : u ≡ at = omega arith in ap (λ (k : ℕ). get_or c.loop-at.rest.coefficients k 0) e ∙ w.if-factor-ne0.false)
            ]);
      })
]
