-- Sums of joint conditions, and what they ask of the lost slot.
use Rattle.std.proofs.Common.{ℕ, ◌≡◌, ◌≢◌, ◌<◌, ◌+◌, List, Option, None, Some, get_or, slice_index_or, slice_set, refl, sym, ap, subst, ◌∙◌, arith, inl, inr, bit_xor}
use Rattle.std.proofs.Math.ListN.{length-set}
use Rattle.std.proofs.lemmas.Bool.{cases_eq, cases_lt}
use Rattle.std.proofs.lemmas.List.{get_or-set_same, get_or-set_other}
use Rattle.gf256.specs.Field.{power_of, product}
use Rattle.gf256.proofs.Sums.{equal_from_sum, sum_commutes, sum_self, sum_zero}
use Rattle.gf256.proofs.Products.{additive_left, additive_right, associates, product_fits, product_zero, product_zero_left, xor_swap}
use Rattle.gf256.proofs.Powers.{commutes, power_fits, product_one}
use Rattle.raid_params.specs.declared.types.Part.{Part}
use Rattle.raid_params.specs.declared.types.Part.TheVariants.{Block, P, Q}
use Rattle.row_relations.specs.Rows.{field_sum, AreBytes}
use Rattle.row_relations.proofs.FieldSums.{both, sum_same, sum_scales, sum_splits}
use Rattle.relation_prefix.specs.declared.joint.JointCondition.{JointCondition}
use Rattle.relation_prefix.specs.Equations.{weight_in_p, weight_in_q}
use Rattle.relation_prefix.specs.Joint.{AreSteps, AsksOf, IsJointSum, MeetsSum, MeetSums}
use Rattle.relation_prefix.specs.Systems.{sum_at}
use Rattle.relation_prefix.proofs.Systems.{sum_none}

pub one_times : (a : ℕ) → a < 256 → product 1 a ≡ a
one_times a fits = commutes 1 a (omega arith) fits ∙ product_one a fits

pub zero_and : (a : ℕ) → bit_xor 0 a ≡ a
zero_and a = sum_commutes 0 a ∙ sum_zero a

-- the sum of two conditions at values is that of both
sum_of_two : (f : ℕ) (one : JointCondition) (g : ℕ) (other sum : JointCondition) (x : ℕ → ℕ) → f < 256 → g < 256 → AreBytes one.coefficients → AreBytes other.coefficients → IsJointSum f one g other sum →
    sum_at sum.coefficients x ≡ bit_xor (product f (sum_at one.coefficients x)) (product g (sum_at other.coefficients x))
unfolding sum_at
sum_of_two f one g other sum x hf hg ho hr is =
    let c = λ (t : ℕ). get_or one.coefficients t 0 in
    let e = λ (t : ℕ). get_or other.coefficients t 0 in
    let mine = λ (t : ℕ). product (c t) (x t) in
    let its = λ (t : ℕ). product (e t) (x t) in
    sum_same 8 (λ t. product (get_or sum.coefficients t 0) (x t)) (λ t. bit_xor (product f (mine t)) (product g (its t)))
    (λ t lt. ap (λ (y : ℕ). product y (x t)) (is.coefficients t) ∙ additive_left (product f (c t)) (product g (e t)) (x t) (product_fits f (c t) hf) (product_fits g (e t) hg)
    ∙ both (product (product f (c t)) (x t)) (product (product g (e t)) (x t)) (product f (mine t)) (product g (its t)) (associates f (c t) (x t) hf (ho t)) (associates g (e t) (x t) hg (hr t)))
    ∙ sum_splits 8 (λ t. product f (mine t)) (λ t. product g (its t))
    ∙ both (field_sum 8 (λ t. product f (mine t))) (field_sum 8 (λ t. product g (its t))) (product f (field_sum 8 mine)) (product g (field_sum 8 its)) (sum_scales 8 f mine hf) (sum_scales 8 g its hg)

exchanged : (f a q : ℕ) → f < 256 → a < 256 → product f (product a q) ≡ product a (product f q)
exchanged f a q hf ha = sym (associates f a q hf ha) ∙ ap (λ (y : ℕ). product y q) (commutes f a hf ha) ∙ associates a f q ha hf

spread : (f a b q p : ℕ) → f < 256 → a < 256 → b < 256 → product f (bit_xor (product a q) (product b p)) ≡ bit_xor (product a (product f q)) (product b (product f p))
spread f a b q p hf ha hb =
    additive_right f (product a q) (product b p) hf
    ∙ both (product f (product a q)) (product f (product b p)) (product a (product f q)) (product b (product f p)) (exchanged f a q hf ha) (exchanged f b p hf hb)

-- values that meet two conditions meet their sum
pub sum_met : (f : ℕ) (one : JointCondition) (g : ℕ) (other sum : JointCondition) (x : ℕ → ℕ) (a b : ℕ) → f < 256 → g < 256 → a < 256 → b < 256 →
    AreBytes one.coefficients → AreBytes other.coefficients → IsJointSum f one g other sum → MeetsSum x a b one → MeetsSum x a b other → MeetsSum x a b sum
sum_met f one g other sum x a b hf hg ha hb ho hr is mine its =
    let aq = product a (product f one.q) in
    let bp = product b (product f one.p) in
    let cq = product a (product g other.q) in
    let dp = product b (product g other.p) in
    sum_of_two f one g other sum x hf hg ho hr is
    ∙ both (product f (sum_at one.coefficients x)) (product g (sum_at other.coefficients x)) (bit_xor aq bp) (bit_xor cq dp)
    (ap (product f) mine ∙ spread f a b one.q one.p hf ha hb) (ap (product g) its ∙ spread g a b other.q other.p hg ha hb)
    ∙ xor_swap aq bp cq dp
    ∙ both (bit_xor aq cq) (bit_xor bp dp) (product a sum.q) (product b sum.p)
    (sym (additive_right a (product f one.q) (product g other.q) ha) ∙ ap (product a) (sym is.q))
    (sym (additive_right b (product f one.p) (product g other.p) hb) ∙ ap (product b) (sym is.p))

-- a sum in which the coefficients at a place cancel begins behind it
pub sum_begins : (one other sum : JointCondition) (at : ℕ) → AreBytes one.coefficients → AreBytes other.coefficients →
    IsJointSum (get_or other.coefficients at 0) one (get_or one.coefficients at 0) other sum → ((u : ℕ) → u < at → get_or one.coefficients u 0 ≡ 0) →
    ((u : ℕ) → u < at → get_or other.coefficients u 0 ≡ 0) → (u : ℕ) → u < at + 1 → get_or sum.coefficients u 0 ≡ 0
sum_begins one other sum at ho hr is mine its u lt =
    let f = get_or other.coefficients at 0 in
    let g = get_or one.coefficients at 0 in
    is.coefficients u
    ∙ elim (cases_lt u at) [
      | inl below ↦ both (product f (get_or one.coefficients u 0)) (product g (get_or other.coefficients u 0)) 0 0
          (ap (product f) (mine u below) ∙ product_zero f) (ap (product g) (its u below) ∙ product_zero g)
      | inr past ↦
          (let e : u ≡ at = omega arith in
          ap (λ (k : ℕ). bit_xor (product f (get_or one.coefficients k 0)) (product g (get_or other.coefficients k 0))) e
          ∙ ap (bit_xor (product f g)) (commutes g f (ho at) (hr at)) ∙ sum_self (product f g))
    ]

module _ (known : List (Option JointCondition)) (rest : JointCondition) (at count : ℕ) (steps : AreSteps count known) (inside : at < 8) where
  now : List (Option JointCondition)
  now = slice_set known at (Some rest)

  at_own : slice_index_or now at None ≡ Some rest
  unfolding now
  at_own = get_or-set_same known at (Some rest) None (omega (arith, steps.long))

  at_other : (t : ℕ) → t ≢ at → slice_index_or now t None ≡ slice_index_or known t None
  unfolding now
  at_other t ne = get_or-set_other known at t (Some rest) None ne

  own_is : (t : ℕ) (other : JointCondition) → t ≡ at → slice_index_or now t None ≡ Some other → rest ≡ other
  own_is t other same e = let both_are : Some rest ≡ Some other = sym at_own ∙ sym (ap (λ (k : ℕ). slice_index_or now k None) same) ∙ e in cc

  -- one more is known
  pub kept_steps : AsksOf count rest → ((u : ℕ) → u < at → get_or rest.coefficients u 0 ≡ 0) → AreSteps count (slice_set known at (Some rest))
  unfolding now
  kept_steps asks before = record {
    long = length-set known at (Some rest) ∙ steps.long;
    each = λ t other there. elim (cases_eq t at) [
      | inl same ↦ subst (λ (j : JointCondition). AsksOf count j) (own_is t other same there) asks
      | inr ne ↦ steps.each t other (sym (at_other t ne) ∙ there)
    ];
    before = λ t other there. elim (cases_eq t at) [
      | inl same ↦ λ u lt. sym (ap (λ (j : JointCondition). get_or j.coefficients u 0) (own_is t other same there)) ∙ before u (omega arith)
      | inr ne ↦ steps.before t other (sym (at_other t ne) ∙ there)
    ];
  }

  pub kept_met : (x : ℕ → ℕ) (a b : ℕ) → MeetSums x a b known → MeetsSum x a b rest → MeetSums x a b (slice_set known at (Some rest))
  unfolding now
  kept_met x a b all own t other there = elim (cases_eq t at) [
    | inl same ↦ subst (λ (j : JointCondition). MeetsSum x a b j) (own_is t other same there) own
    | inr ne ↦ all t other (sym (at_other t ne) ∙ there)
  ]

-- what asks of no tie asks of the values
pub values_left : (joint : JointCondition) (x : ℕ → ℕ) (a b : ℕ) → ((t : ℕ) → t < 8 → get_or joint.coefficients t 0 ≡ 0) → MeetsSum x a b joint → bit_xor (product a joint.q) (product b joint.p) ≡ 0
values_left joint x a b none meets = sym meets ∙ sum_none joint.coefficients x none

-- the block without which values come to 0
pub lost_is_not_q : (part : Part) (p q quotient : ℕ) → p < 256 → q < 256 → p ≢ 0 → ((x : ℕ) → x < 256 → product x p ≡ q → x ≡ quotient) →
    bit_xor (product (weight_in_p part) q) (product (weight_in_q part) p) ≡ 0 → (weight_in_p part ≡ 1) × (weight_in_q part ≡ quotient)
lost_is_not_q (Block k) p q quotient hp hq ne only e =
    (refl, only (power_of k) (power_fits k) (sym (equal_from_sum (product 1 q) (product (power_of k) p) e) ∙ one_times q hq))
lost_is_not_q P p q quotient hp hq ne only e = (refl, only 0 (omega arith) (sym (equal_from_sum (product 1 q) (product 0 p) e) ∙ one_times q hq))
lost_is_not_q Q p q quotient hp hq ne only e = absurd (ne (sym (one_times p hp) ∙ sym (equal_from_sum (product 0 q) (product 1 p) e) ∙ product_zero_left q))

no_value : (w q : ℕ) → q < 256 → q ≢ 0 → bit_xor (product 1 q) (product w 0) ≡ 0 → ⊥
no_value w q hq ne e = ne (sym (one_times q hq) ∙ equal_from_sum (product 1 q) (product w 0) e ∙ product_zero w)

pub lost_is_q : (part : Part) (p q : ℕ) → q < 256 → p ≡ 0 → q ≢ 0 → bit_xor (product (weight_in_p part) q) (product (weight_in_q part) p) ≡ 0 → (weight_in_p part ≡ 0) × (weight_in_q part ≡ 1)
lost_is_q (Block k) p q hq z ne e = absurd (no_value (power_of k) q hq ne (ap (λ (v : ℕ). bit_xor (product 1 q) (product (power_of k) v)) (sym z) ∙ e))
lost_is_q P p q hq z ne e = absurd (no_value 0 q hq ne (ap (λ (v : ℕ). bit_xor (product 1 q) (product 0 v)) (sym z) ∙ e))
lost_is_q Q p q hq z ne e = (refl, refl)

-- with none lost both values are 0
pub both_none : (p q : ℕ) → p < 256 → q < 256 → bit_xor (product 0 q) (product 1 p) ≡ 0 → bit_xor (product 1 q) (product 0 p) ≡ 0 → (p ≡ 0) × (q ≡ 0)
both_none p q hp hq of_p of_q = (
  sym (one_times p hp) ∙ sym (equal_from_sum (product 0 q) (product 1 p) of_p) ∙ product_zero_left q,
  sym (one_times q hq) ∙ equal_from_sum (product 1 q) (product 0 p) of_q ∙ product_zero_left p,
)
