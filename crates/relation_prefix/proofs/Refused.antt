-- Rows that tell the weights of the lost slot refuse all others.
use Rattle.std.proofs.Common.{ℕ, ◌≡◌, ◌<◌, ◌≤◌, ◌+◌, ◌/◌, ◌&&◌, nat_lt, not, Bool, true, false, List, Option, None, Some, count_by, length, get_or, map, slice_index_or, take, refl, sym, ap, subst, ◌∙◌, arith, inl, inr, bit_xor}
use Rattle.std.specs.List.{list_all, range_with_len}
use Rattle.std.proofs.lemmas.Bool.{and_from, cases_Bool, cases_eq, lt-ltb}
use Rattle.std.proofs.lemmas.List.FromFn.{get_or-map-range_with_len}
use Rattle.std.proofs.lemmas.List.Sums.{count_by_more_no, count_by_more_yes}
use Rattle.gf256.specs.Field.{power_of, product}
use Rattle.gf256.proofs.Sums.{sum_zero}
use Rattle.gf256.proofs.Products.{product_zero_left}
use Rattle.row_relations.proofs.FieldSums.{both}
use Rattle.raid_params.specs.declared.types.Head.{Head}
use Rattle.raid_params.specs.declared.types.Level.{Level}
use Rattle.raid_params.specs.declared.types.Level.TheVariants.{Raid0, Raid5, Raid6}
use Rattle.raid_params.specs.declared.types.Part.{Part}
use Rattle.raid_params.specs.declared.types.Part.TheVariants.{Block, P, Q}
use Rattle.raid_terms.specs.Cells.{part_of}
use Rattle.relation_prefix.specs.declared.equation.Equation.TheVariants.{OfP, OfQ}
use Rattle.relation_prefix.specs.declared.lost_weights.LostWeights.{LostWeights}
use Rattle.relation_prefix.specs.declared.refusals.Refusals.{Refusals}
use Rattle.relation_prefix.specs.declared.sampled.PrefixTest.{PrefixTest}
use Rattle.relation_prefix.specs.declared.sampled.SampledRow.{SampledRow}
use Rattle.relation_prefix.specs.declared.row_ties.RowTies.{RowTies}
use Rattle.relation_prefix.specs.declared.weights.RowWeights.{RowWeights}
use Rattle.relation_prefix.specs.Equations.{left_without, slot_weight, weight_in, weight_in_p, weight_in_q}
use Rattle.relation_prefix.specs.Joint.{AreRefusals, TellsLost}
use Rattle.relation_prefix.specs.Sampled.{allows_by, equations_of, is_raid6, refuses, row_allows, AreRowWeights}
use Rattle.relation_prefix.specs.Ties.{AreWeightsOf, HasWeight}
use Rattle.relation_prefix.proofs.Joints.{one_times, zero_and}
use Rattle.relation_prefix.proofs.Keeping.{count_few}
use Rattle.relation_prefix.proofs.Sums.{weight_fits}
use Rattle.relation_prefix.proofs.Told.{told}

six : (level : Level) → is_raid6 level ≡ true → level ≡ Raid6
six Raid0 e = absurd (cc)
six Raid5 e = absurd (cc)
six Raid6 e = refl

q_alone : (p q : ℕ) → q < 256 → q ≡ bit_xor (product 1 q) (product 0 p)
q_alone p q hq = sym (both (product 1 q) (product 0 p) q 0 (one_times q hq) (product_zero_left p) ∙ sum_zero q)

p_alone : (p q : ℕ) → p < 256 → p ≡ bit_xor (product 0 q) (product 1 p)
p_alone p q hp = sym (both (product 0 q) (product 1 p) 0 p (product_zero_left q) (one_times p hp) ∙ zero_and p)

-- the equation that is left is the sum of both by the weights of the lost block
left_sum : (lost part : Part) → weight_in (left_without lost) part ≡ bit_xor (product (weight_in_p lost) (weight_in_q part)) (product (weight_in_q lost) (weight_in_p part))
left_sum (Block k) part = ap (λ (v : ℕ). bit_xor v (product (power_of k) (weight_in_p part))) (sym (one_times (weight_in_q part) (weight_fits OfQ part)))
left_sum P part = q_alone (weight_in_p part) (weight_in_q part) (weight_fits OfQ part)
left_sum Q part = p_alone (weight_in_p part) (weight_in_q part) (weight_fits OfP part)

both_true : (a b : Bool) → (a ≡ true → b ≡ true → ⊥) → (a && (b && true)) ≡ false
both_true true true h = absurd (h refl refl)
both_true true false h = refl
both_true false b h = refl

alone_true : (a : Bool) → (a ≡ true → ⊥) → (a && true) ≡ false
alone_true true h = absurd (h refl)
alone_true false h = refl

module _ (head : Head) (row : ℕ) (ties : RowTies) (weights : RowWeights) (slots : List (Option ℕ)) (lost : LostWeights) (few : length slots ≤ head.members) (are : AreRowWeights head row weights)
    (tells : TellsLost ties weights slots lost) where
  p_fits : (slot : ℕ) → slot < length slots → get_or weights.p slot 0 < 256
  p_fits slot lt = subst (λ (w : ℕ). w < 256) (sym (are.p slot (omega arith))) (weight_fits OfP (part_of head row slot))

  q_fits : (slot : ℕ) → slot < length slots → get_or weights.q slot 0 < 256
  q_fits slot lt = subst (λ (w : ℕ). w < 256) (sym (are.q slot (omega arith))) (weight_fits OfQ (part_of head row slot))

  -- with no slot lost not both equations may be relations
  pub none_allowed : list_all (allows_by ties head row slots) (equations_of Raid6) ≡ false
  none_allowed =
      both_true (allows_by ties head row slots OfP) (allows_by ties head row slots OfQ)
      (λ of_p of_q.
      (let v = (told ties head row slots OfP weights.p few (λ slot lt. are.p slot (omega arith))).0 of_p in
      let w = (told ties head row slots OfQ weights.q few (λ slot lt. are.q slot (omega arith))).0 of_q in
      tells.whole v.0 w.0
      (λ slot image lt e. subst (λ (u : ℕ). HasWeight ties v.0 image u) (p_alone (get_or weights.p slot 0) (get_or weights.q slot 0) (p_fits slot lt)) (v.1.held slot image lt e))
      (λ slot image lt e. subst (λ (u : ℕ). HasWeight ties w.0 image u) (q_alone (get_or weights.p slot 0) (get_or weights.q slot 0) (q_fits slot lt)) (w.1.held slot image lt e))))

  -- nor what is left without a slot of other weights
  pub one_allowed : (slot : ℕ) → slot < head.members → (get_or weights.p slot 0 ≡ lost.p → get_or weights.q slot 0 ≡ lost.q → ⊥) → row_allows ties head row slots (Some slot) ≡ false
  one_allowed slot inside other =
      let part = part_of head row slot in
      let equation = left_without part in
      let n = length slots in
      let weight = slot_weight head row equation in
      let list = map weight (range_with_len 0 n) in
      let weigh : AreWeightsOf head row equation n list = λ k lt. get_or-map-range_with_len weight 0 n k k 0 lt (omega arith) in
      alone_true (allows_by ties head row slots equation)
      (λ allowed.
      (let v = (told ties head row slots equation list few weigh).0 allowed in
      let is = tells.one v.0 part
      (λ k image lt e. subst (λ (u : ℕ). HasWeight ties v.0 image u)
      (weigh k lt ∙ left_sum part (part_of head row k)
      ∙ both (product (weight_in_p part) (weight_in_q (part_of head row k))) (product (weight_in_q part) (weight_in_p (part_of head row k)))
      (product (weight_in_p part) (get_or weights.q k 0)) (product (weight_in_q part) (get_or weights.p k 0))
      (ap (product (weight_in_p part)) (sym (are.q k (omega arith)))) (ap (product (weight_in_q part)) (sym (are.p k (omega arith)))))
      (v.1.held k image lt e)) in
      other (are.p slot inside ∙ is.0) (are.q slot inside ∙ is.1)))

module _ (test : PrefixTest) (sampled : SampledRow) (weights : RowWeights) (slots : List (Option ℕ)) (lost : LostWeights) (level : is_raid6 test.head.level ≡ true) (few : length slots ≤ test.head.members)
    (are : AreRowWeights test.head (sampled.row / test.head.chunk) weights) (tells : TellsLost sampled.ties weights slots lost) (tested : sampled.row < test.tested) where
  -- so a tested row refuses
  pub refuses_whole : refuses test slots None sampled ≡ true
  refuses_whole =
      let row = sampled.row / test.head.chunk in
      and_from (nat_lt sampled.row test.tested) (not (row_allows sampled.ties test.head row slots None)) (lt-ltb sampled.row test.tested tested)
      (ap (λ (b : Bool). not b)
      (ap (λ (l : Level). list_all (allows_by sampled.ties test.head row slots) (equations_of l)) (six test.head.level level) ∙ none_allowed test.head row sampled.ties weights slots lost few are tells))

  pub refuses_other : (slot : ℕ) → slot < test.head.members → (get_or weights.p slot 0 ≡ lost.p → get_or weights.q slot 0 ≡ lost.q → ⊥) → refuses test slots (Some slot) sampled ≡ true
  refuses_other slot inside other =
      let row = sampled.row / test.head.chunk in
      and_from (nat_lt sampled.row test.tested) (not (row_allows sampled.ties test.head row slots (Some slot))) (lt-ltb sampled.row test.tested tested)
      (ap (λ (b : Bool). not b) (one_allowed test.head row sampled.ties weights slots lost few are tells slot inside other))

count_same : (f : SampledRow → Bool) (rows : List SampledRow) (n : ℕ) (d : SampledRow) → n < length rows → count_by f (take n rows) ≤ count_by f (take (n + 1) rows)
count_same f rows n d lt = elim (cases_Bool (f (slice_index_or rows n d))) [
  | inl passes ↦ (let e = count_by_more_yes f rows n d lt passes in omega arith)
  | inr fails ↦ (let e = count_by_more_no f rows n d lt fails in omega arith)
]

-- one row more, that refuses all but those of its weights
pub more_refusals : (rows : List SampledRow) (test : PrefixTest) (slots : List (Option ℕ)) (n : ℕ) (d : SampledRow) (own : RowWeights) (lost : LostWeights) (old new : Refusals) →
    is_raid6 test.head.level ≡ true → length slots ≤ test.head.members → n < length rows → AreRowWeights test.head ((slice_index_or rows n d).row / test.head.chunk) own →
    TellsLost (slice_index_or rows n d).ties own slots lost → (slice_index_or rows n d).row < test.tested → AreRefusals (take n rows) test slots old → new.whole ≡ old.whole + 1 →
    ((slot : ℕ) → get_or new.lost slot 0 ≤ get_or old.lost slot 0 + 1) →
    ((slot : ℕ) → get_or own.p slot 0 ≡ lost.p → get_or own.q slot 0 ≡ lost.q → get_or new.lost slot 0 ≡ get_or old.lost slot 0) → AreRefusals (take (n + 1) rows) test slots new
more_refusals rows test slots n d own lost old new level few lt are tells tested was whole more same =
    let sampled = slice_index_or rows n d in
    let one_more = λ (o : Option ℕ) (yes_is : refuses test slots o sampled ≡ true). count_by_more_yes (refuses test slots o) rows n d lt yes_is in
    record {
      whole = (let e = one_more None (refuses_whole test sampled own slots lost level few are tells tested) in let before = was.whole in omega arith);
      lost = λ slot inside.
          let before = was.lost slot inside in
          let at_most = more slot in
          let other : (get_or own.p slot 0 ≡ lost.p → get_or own.q slot 0 ≡ lost.q → ⊥) → get_or new.lost slot 0 ≤ count_by (refuses test slots (Some slot)) (take (n + 1) rows)
          = λ differs. (let e = one_more (Some slot) (refuses_other test sampled own slots lost level few are tells tested slot inside differs) in omega arith) in
          elim (cases_eq (get_or own.p slot 0) lost.p) [
            | inr not_p ↦ other (λ p q. not_p p)
            | inl p ↦
                elim (cases_eq (get_or own.q slot 0) lost.q) [
                  | inr not_q ↦ other (λ p q. not_q q)
                  | inl q ↦ (let e = same slot p q in let up = count_same (refuses test slots (Some slot)) rows n d lt in omega arith)
                ]
          ];
    }

-- and one that does not
pub same_refusals : (rows : List SampledRow) (test : PrefixTest) (slots : List (Option ℕ)) (n : ℕ) (d : SampledRow) (are : Refusals) → n < length rows → AreRefusals (take n rows) test slots are → AreRefusals (take (n + 1) rows) test slots are
same_refusals rows test slots n d are lt was = record {
  whole = (let up = count_same (refuses test slots None) rows n d lt in let before = was.whole in omega arith);
  lost = λ slot inside. let up = count_same (refuses test slots (Some slot)) rows n d lt in let before = was.lost slot inside in omega arith;
}

-- what some of the rows refuse, all do
pub all_refusals : (rows : List SampledRow) (test : PrefixTest) (slots : List (Option ℕ)) (n : ℕ) (are : Refusals) → AreRefusals (take n rows) test slots are → AreRefusals rows test slots are
all_refusals rows test slots n are was = record {
  whole = (let up = count_few (refuses test slots None) rows n in let before = was.whole in omega arith);
  lost = λ slot inside. let up = count_few (refuses test slots (Some slot)) rows n in let before = was.lost slot inside in omega arith;
}
