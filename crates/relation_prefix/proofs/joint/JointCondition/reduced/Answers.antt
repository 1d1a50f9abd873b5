use Rattle.std.proofs.Common.{ℕ, ◌≡◌, ◌<◌, ◌+◌, List, Option, None, Some, get_or, slice_index_or, slice_set, refl, sym, ap, subst, ◌∙◌, arith, inl, inr}
use Rattle.std.proofs.lemmas.Bool.{cases_lt}
use Rattle.relation_prefix.specs.declared.joint.JointCondition.{JointCondition}
use Rattle.relation_prefix.specs.Joint.{AreSteps, AsksOf, MeetsSum, MeetSums}
use Rattle.relation_prefix.proofs.Joints.{kept_met, kept_steps, sum_begins, sum_met, values_left}
use Rattle.relation_prefix.proofs.joint.JointCondition.reduced.Goals as goal
use Rattle.relation_prefix.proofs.joint.JointCondition.reduced.Goals.{then-own-ne0+in-Some, else-own-ne0}

pub loop-at-init : goal.loop-at-init
loop-at-init c = record { same = refl; asks = c.requires.own; cleared = λ u lt. absurd (omega arith); met = λ x a b ha hb all own. own }

pub loop-at-preserved : goal.loop-at-preserved
loop-at-preserved c = elim c.if-own-ne0.branch [
  | then-own-ne0+in-Some w ↦
      (let was = c.loop-at.invariant in
      let at = c.loop-at.at in
      let rest = c.loop-at.rest in
      let first = w.in-Some.first in
      let f = get_or first.coefficients at 0 in
      let g = get_or rest.coefficients at 0 in
      let there : slice_index_or c.args.known.now at None ≡ Some first = sym (ap (λ (l : List (Option JointCondition)). slice_index_or l at None) was.same) ∙ w.in-Some.is in
      let its = c.requires.known.each at first there in
      let hf : f < 256 = (let fits = its.bytes at in omega arith) in
      let hg : g < 256 = (let fits = was.asks.bytes at in omega arith) in
      record {
        same = was.same;
        asks = subst (λ (j : JointCondition). AsksOf c.args.count j) (sym w.rest-is) w.plus-rest.ensures.asks;
        cleared = subst (λ (j : JointCondition). (u : ℕ) → u < at + 1 → get_or j.coefficients u 0 ≡ 0) (sym w.rest-is)
            (sum_begins rest first w.plus-rest.result at was.asks.bytes its.bytes w.plus-rest.ensures.sum was.cleared (c.requires.known.before at first there));
        met = λ x a b ha hb all own. subst (λ (j : JointCondition). MeetsSum x a b j) (sym w.rest-is)
            (sum_met f rest g first w.plus-rest.result x a b hf hg ha hb was.asks.bytes its.bytes w.plus-rest.ensures.sum (was.met x a b ha hb all own) (all at first there));
      })
  | else-own-ne0 w ↦
      (let was = c.loop-at.invariant in
      let at = c.loop-at.at in
      record {
        same = was.same;
        asks = subst (λ (j : JointCondition). AsksOf c.args.count j) (sym w.rest-is) was.asks;
        cleared = subst (λ (j : JointCondition). (u : ℕ) → u < at + 1 → get_or j.coefficients u 0 ≡ 0) (sym w.rest-is)
            (λ u lt. elim (cases_lt u at) [
              | inl below ↦ was.cleared u below
              | inr past ↦ (let e : u ≡ at = omega arith in ap (λ (k : ℕ). get_or c.loop-at.rest.coefficients k 0) e ∙ w.if-own-ne0.false)
            ]);
        met = λ x a b ha hb all own. subst (λ (j : JointCondition). MeetsSum x a b j) (sym w.rest-is) (was.met x a b ha hb all own);
      })
]

pub returns-in_default-clause-known : goal.returns-in_default-clause-known
returns-in_default-clause-known c =
    let was = c.loop-at.invariant in
    subst (λ (l : List (Option JointCondition)). AreSteps c.args.count (slice_set l c.loop-at.at (Some c.loop-at.rest))) (sym was.same)
    (kept_steps c.args.known.now c.loop-at.rest c.loop-at.at c.args.count c.requires.known (omega (arith, c.requires.count, c.loop-at-test.true)) was.asks was.cleared)

pub returns-in_default-clause-kept : goal.returns-in_default-clause-kept
returns-in_default-clause-kept c x a b ha hb all own =
    let was = c.loop-at.invariant in
    subst (λ (l : List (Option JointCondition)). MeetSums x a b (slice_set l c.loop-at.at (Some c.loop-at.rest))) (sym was.same)
    (kept_met c.args.known.now c.loop-at.rest c.loop-at.at c.args.count c.requires.known (omega (arith, c.requires.count, c.loop-at-test.true)) x a b all (was.met x a b ha hb all own))

pub returns-clause-values : goal.returns-clause-values
returns-clause-values c x a b ha hb all own =
    let was = c.loop-at.invariant in
    values_left c.loop-at.rest x a b
    (λ t lt. elim (cases_lt t c.args.count) [
      | inl below ↦ was.cleared t (omega (arith, c.loop-at-test.false))
      | inr past ↦ was.asks.past t past
    ])
    (was.met x a b ha hb all own)
