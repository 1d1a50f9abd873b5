-- Values of ties by the weights of their dependent images.
use Rattle.std.proofs.Common.{ℕ, ◌≡◌, ◌<◌, ◌+◌, Option, List, length, get_or, slice_set, sym, ap, subst, ◌∙◌, arith, inl, inr}
use Rattle.std.proofs.Math.ListN.{length-set}
use Rattle.std.proofs.lemmas.Bool.{cases_eq, cases_lt}
use Rattle.std.proofs.lemmas.List.{get_or-set_same, get_or-set_other, get_or_past}
use Rattle.gf256.specs.Field.{product}
use Rattle.gf256.proofs.Products.{product_zero_left}
use Rattle.gf256.proofs.Powers.{commutes, product_one}
use Rattle.row_relations.specs.Rows.{field_sum, AreBytes}
use Rattle.row_relations.proofs.FieldSums.{sum_ends, sum_of_one, sum_same}
use Rattle.relation_prefix.specs.declared.row_ties.RowTies.{RowTies}
use Rattle.relation_prefix.specs.Systems.{sum_at, AreValues}
use Rattle.relation_prefix.specs.Ties.{coefficients_of, AreThere, FitTies, ForeignHaveNone, HasWeight, HaveAll, HaveWeights, IsOwnDependent}

-- the weight of the dependent image of a tie is the value of the tie
own_sum : (ties : RowTies) (t image : ℕ) (x : ℕ → ℕ) → IsOwnDependent ties t image → t < 8 → AreValues x → sum_at (coefficients_of ties image) x ≡ x t
unfolding sum_at
own_sum ties t image x own lt hx =
    sum_of_one 8 t (λ u. product (get_or (coefficients_of ties image) u 0) (x u)) lt (λ u ne. ap (λ (a : ℕ). product a (x u)) (own.others u ne) ∙ product_zero_left (x u))
    ∙ ap (λ (a : ℕ). product a (x t)) own.own ∙ commutes 1 (x t) (omega arith) (hx t) ∙ product_one (x t) (hx t)

pub value_is : (ties : RowTies) (t n weight : ℕ) (x : ℕ → ℕ) (weights : List ℕ) (slots : List (Option ℕ)) → FitTies ties → t < ties.count → HaveAll ties weights n slots x →
    HasWeight ties x (get_or ties.dependents t 0) weight → x t ≡ weight
value_is ties t n weight x weights slots fit lt have is =
    let own = fit.dependents t lt in
    let few = fit.count in
    sym (own_sum ties t (get_or ties.dependents t 0) x own (omega arith) have.bytes) ∙ is own.some

-- one value more
pub value_set : (x : ℕ → ℕ) (values : List ℕ) (t weight : ℕ) → t < length values → ((k : ℕ) → k < t → x k ≡ get_or values k 0) → x t ≡ weight →
    (k : ℕ) → k < t + 1 → x k ≡ get_or (slice_set values t weight) k 0
value_set x values t weight inside before here k lt = elim (cases_lt k t) [
  | inl below ↦ before k below ∙ sym (get_or-set_other values t k weight 0 (λ e. absurd (omega arith)))
  | inr past ↦
      (let e : t ≡ k = omega arith in
      subst (λ (j : ℕ). x j ≡ get_or (slice_set values t weight) j 0) e (here ∙ sym (get_or-set_same values t weight 0 inside)))
]

-- the weight of an image by the values of the ties that there are
pub weighed_whole : (ties : RowTies) (i : ℕ) (x : ℕ → ℕ) → FitTies ties → i < ties.images → sum_at (coefficients_of ties i) x ≡ field_sum ties.count (λ t. product (get_or (coefficients_of ties i) t 0) (x t))
unfolding sum_at
weighed_whole ties i x fit lt =
    sum_ends ties.count 8 (λ t. product (get_or (coefficients_of ties i) t 0) (x t)) fit.count
    (λ t past. ap (λ (a : ℕ). product a (x t)) (fit.past i t lt past) ∙ product_zero_left (x t))

sums_agree : (ties : RowTies) (i : ℕ) (x y : ℕ → ℕ) → FitTies ties → i < ties.images → ((t : ℕ) → t < ties.count → x t ≡ y t) → sum_at (coefficients_of ties i) x ≡ sum_at (coefficients_of ties i) y
sums_agree ties i x y fit lt same =
    let cs = coefficients_of ties i in
    weighed_whole ties i x fit lt
    ∙ sum_same ties.count (λ t. product (get_or cs t 0) (x t)) (λ t. product (get_or cs t 0) (y t)) (λ t below. ap (product (get_or cs t 0)) (same t below))
    ∙ sym (weighed_whole ties i y fit lt)

-- values that agree give the same weights
pub held_agree : (ties : RowTies) (x y : ℕ → ℕ) (weights : List ℕ) (slots : List (Option ℕ)) → FitTies ties → AreThere ties.images slots → ((t : ℕ) → t < ties.count → x t ≡ y t) →
    HaveWeights ties x weights slots (length slots) → HaveWeights ties y weights slots (length slots)
held_agree ties x y weights slots fit there same h slot image lt e some = sym (sums_agree ties image x y fit (there slot image (lt, e)) same) ∙ h slot image lt e some

pub foreign_agree : (ties : RowTies) (x y : ℕ → ℕ) (slots : List (Option ℕ)) → FitTies ties → ((t : ℕ) → t < ties.count → x t ≡ y t) →
    ForeignHaveNone ties x slots ties.images → ForeignHaveNone ties y slots ties.images
foreign_agree ties x y slots fit same h image lt foreign some = sym (sums_agree ties image x y fit lt same) ∙ h image lt foreign some

pub byte_set : (values : List ℕ) (t weight : ℕ) → AreBytes values → weight < 256 → AreBytes (slice_set values t weight)
byte_set values t weight fits fit i = elim (cases_eq i t) [
  | inr other ↦ rw (get_or-set_other values t i weight 0 other) (fits i)
  | inl same ↦ elim (cases_lt t (length values)) [
    | inl inside ↦ subst (λ (j : ℕ). get_or (slice_set values t weight) j 0 < 256) (sym same) (rw (get_or-set_same values t weight 0 inside) fit)
    | inr past ↦ rw (get_or_past (slice_set values t weight) i 0 (let long = length-set values t weight in omega arith)) (omega arith)
  ]
]
