-- What the values of ties say of the relations of a row.
use Rattle.std.proofs.Common.{ℕ, ◌≡◌, ◌<◌, ◌≤◌, ◌+◌, Bool, true, false, cond, List, Option, None, Some, length, get_or, map, slice_index_or, sym, ap, subst, ◌∙◌, arith, inl, inr}
use Rattle.std.specs.List.{range_with_len}
use Rattle.std.proofs.lemmas.Bool.{cases_lt, cases_Bool}
use Rattle.std.proofs.lemmas.List.{get_or_past}
use Rattle.std.proofs.lemmas.List.FromFn.{get_or-map-range_with_len, length-map-range_with_len}
use Rattle.raid_params.specs.declared.types.Head.{Head}
use Rattle.row_relations.specs.Rows.{AreBytes}
use Rattle.row_relations.specs.Tables.{Table, IsTable}
use Rattle.relation_prefix.specs.declared.equation.Equation.{Equation}
use Rattle.relation_prefix.specs.declared.row_ties.RowTies.{RowTies}
use Rattle.relation_prefix.specs.Prefixes.{Allows, IsForeign}
use Rattle.relation_prefix.specs.Systems.{sum_at, AreValues}
use Rattle.relation_prefix.specs.Ties.{coefficients_of, AreSlots, AreTiesOf, AreWeightsOf, CanHaveAll, FitTies, ForeignHaveNone, HasWeight, HaveWeights}
use Rattle.relation_prefix.proofs.Systems.{sum_is_value}
use Rattle.relation_prefix.proofs.Vectors.{weight_at, weight_at_fits, weights_at, weights_foreign, weights_held}

-- one slot more
pub weights_more : (ties : RowTies) (x : ℕ → ℕ) (weights : List ℕ) (slots : List (Option ℕ)) (n image : ℕ) → slice_index_or slots n None ≡ Some image → HaveWeights ties x weights slots n →
    HasWeight ties x image (get_or weights n 0) → HaveWeights ties x weights slots (n + 1)
weights_more ties x weights slots n image e before here slot other lt held = elim (cases_lt slot n) [
  | inl below ↦ before slot other below held
  | inr past ↦
      (let same : n ≡ slot = omega arith in
      let is : image ≡ other = (let both : Some image ≡ Some other = sym e ∙ ap (λ (k : ℕ). slice_index_or slots k None) same ∙ held in cc) in
      subst (λ (k : ℕ). HasWeight ties x other (get_or weights k 0)) same (subst (λ (i : ℕ). HasWeight ties x i (get_or weights n 0)) is here))
]

pub weights_more_empty : (ties : RowTies) (x : ℕ → ℕ) (weights : List ℕ) (slots : List (Option ℕ)) (n : ℕ) → ((image : ℕ) → slice_index_or slots n None ≡ Some image → ⊥) → HaveWeights ties x weights slots n →
    HaveWeights ties x weights slots (n + 1)
weights_more_empty ties x weights slots n none before slot other lt held = elim (cases_lt slot n) [
  | inl below ↦ before slot other below held
  | inr past ↦ (let same : slot ≡ n = omega arith in absurd (none other (sym (ap (λ (k : ℕ). slice_index_or slots k None) same) ∙ held)))
]

pub weights_less : (ties : RowTies) (x : ℕ → ℕ) (weights : List ℕ) (slots : List (Option ℕ)) (n m : ℕ) → n ≤ m → HaveWeights ties x weights slots m → HaveWeights ties x weights slots n
weights_less ties x weights slots n m le h slot image lt held = h slot image (omega arith) held

-- one image more
pub none_more : (ties : RowTies) (x : ℕ → ℕ) (slots : List (Option ℕ)) (n : ℕ) → ForeignHaveNone ties x slots n → (IsForeign slots n → HasWeight ties x n 0) → ForeignHaveNone ties x slots (n + 1)
none_more ties x slots n before here image lt foreign = elim (cases_lt image n) [
  | inl below ↦ before image below foreign
  | inr past ↦
      (let same : n ≡ image = omega arith in
      subst (λ (i : ℕ). HasWeight ties x i 0) same (here (subst (λ (i : ℕ). IsForeign slots i) (sym same) foreign)))
]

pub none_less : (ties : RowTies) (x : ℕ → ℕ) (slots : List (Option ℕ)) (n m : ℕ) → n ≤ m → ForeignHaveNone ties x slots m → ForeignHaveNone ties x slots n
none_less ties x slots n m le h image lt foreign = h image (omega arith) foreign

choice_fits : (b : Bool) (m n : ℕ) → m < 256 → n < 256 → cond b m n < 256
choice_fits true m n hm hn = hm
choice_fits false m n hm hn = hn

-- weights of a relation that an equation may have are met by the values of its ties
pub values_of : (sectors : List ℕ) (table : Table) (ties : RowTies) (head : Head) (row : ℕ) (equation : Equation) (weights : List ℕ) (slots : List (Option ℕ)) → AreTiesOf table ties →
    IsTable ties.images sectors table → AreSlots ties.images slots → AreWeightsOf head row equation (length slots) weights → Allows ties.images table head row slots equation →
    CanHaveAll ties weights head.members slots
values_of sectors table ties head row equation weights slots of is are weigh allowed =
    let v = allowed.0 in
    let a = allowed.1 in
    let given = of.gives sectors v is a.relation in (
      given.0,
      record {
        bytes = given.1;
        held = λ slot image lt held some. sym (given.2 image (are.there slot image (lt, held)) some) ∙ a.held slot image (lt, held) ∙ sym (weigh slot lt);
        foreign = λ whole image lt foreign some. sym (given.2 image lt some) ∙ a.foreign whole image lt foreign;
      },
    )

module _ (sectors : List ℕ) (table : Table) (ties : RowTies) (head : Head) (row : ℕ) (equation : Equation) (weights : List ℕ) (slots : List (Option ℕ))
    (fit : FitTies ties) (of : AreTiesOf table ties) (is : IsTable ties.images sectors table) (are : AreSlots ties.images slots) (fits : AreBytes weights)
    (weigh : AreWeightsOf head row equation (length slots) weights) where
  module _ (x : ℕ → ℕ) (hx : AreValues x) (have : HaveWeights ties x weights slots (length slots)) (none : length slots ≡ head.members → ForeignHaveNone ties x slots ties.images) where
    chosen : ℕ → ℕ
    chosen i = cond (slice_index_or ties.zeros i false) (weight_at (λ s. get_or weights s 0) slots i) (sum_at (coefficients_of ties i) x)

    list : List ℕ
    list = map chosen (range_with_len 0 ties.images)

    list_at : (i : ℕ) → i < ties.images → get_or list i 0 ≡ chosen i
    unfolding list
    list_at i lt = get_or-map-range_with_len chosen 0 ties.images i i 0 lt (omega arith)

    list_long : length list ≡ ties.images
    unfolding list
    list_long = length-map-range_with_len chosen 0 ties.images

    chosen_fits : (i : ℕ) → i < ties.images → chosen i < 256
    unfolding chosen
    chosen_fits i lt = choice_fits (slice_index_or ties.zeros i false) (weight_at (λ s. get_or weights s 0) slots i) (sum_at (coefficients_of ties i) x)
        (weight_at_fits ties.images (λ s. get_or weights s 0) slots fits i) (sum_is_value (coefficients_of ties i) x (fit.bytes i lt))

    list_bytes : AreBytes list
    list_bytes i = elim (cases_lt i ties.images) [
      | inl lt ↦ rw (list_at i lt) (chosen_fits i lt)
      | inr past ↦ rw (get_or_past list i 0 (omega (arith, list_long))) (omega arith)
    ]

    chosen_some : (i : ℕ) → slice_index_or ties.zeros i false ≡ false → chosen i ≡ sum_at (coefficients_of ties i) x
    unfolding chosen
    chosen_some i e = ap (λ b. cond b (weight_at (λ s. get_or weights s 0) slots i) (sum_at (coefficients_of ties i) x)) e

    chosen_zero : (i : ℕ) → slice_index_or ties.zeros i false ≡ true → chosen i ≡ weight_at (λ s. get_or weights s 0) slots i
    unfolding chosen
    chosen_zero i e = ap (λ b. cond b (weight_at (λ s. get_or weights s 0) slots i) (sum_at (coefficients_of ties i) x)) e

    in_list : (s i : ℕ) → slice_index_or slots s None ≡ Some i → s < length slots
    in_list s i e = elim (cases_lt s (length slots)) [ inl lt ↦ lt | inr past ↦ absurd (let nothing = get_or_past slots s None past in let clash : None ≡ Some i = sym nothing ∙ e in cc) ]

    pub values_allow : Allows ties.images table head row slots equation
    values_allow = (
      list,
      record {
        relation = of.takes sectors list x is list_long list_bytes hx (λ i lt some. list_at i lt ∙ chosen_some i some);
        held = λ slot image held.
            (let lt = are.there slot image held in
            list_at image lt ∙ elim (cases_Bool (slice_index_or ties.zeros image false)) [
              | inr some ↦ chosen_some image some ∙ have slot image held.0 held.1 some
              | inl empty ↦ chosen_zero image empty ∙ sym (weights_at ties.images (λ s. get_or weights s 0) slots fits image lt)
                  ∙ weights_held ties.images (λ s. get_or weights s 0) slots fits slot image lt held.0 held.1 (λ other ne e. ne (are.once other slot image (in_list other image e, e) held))
            ]
            ∙ weigh slot (let within = held.0 in omega arith));
        foreign = λ whole image lt foreign.
            (list_at image lt ∙ elim (cases_Bool (slice_index_or ties.zeros image false)) [
              | inr some ↦ chosen_some image some ∙ none whole image lt foreign some
              | inl empty ↦ chosen_zero image empty ∙ sym (weights_at ties.images (λ s. get_or weights s 0) slots fits image lt)
                  ∙ weights_foreign ties.images (λ s. get_or weights s 0) slots fits image lt (λ s in_all e. foreign s (in_all, e))
            ]);
      },
    )
