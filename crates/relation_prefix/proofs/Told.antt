-- Which equations a row allows, by the values of its ties.
use Rattle.std.proofs.Common.{ℕ, zero, suc, ◌≡◌, ◌<◌, ◌≤◌, ◌||◌, ◌==◌, nat_lt, Bool, true, false, List, [], ◌∷◌, Option, None, Some, length, get_or, map, slice_index_or, refl, sym, ap, subst, ◌∙◌, arith, inl, inr}
use Rattle.std.specs.Bool.{Decides}
use Rattle.std.specs.List.{list_all, range_with_len, slice_index}
use Rattle.std.specs.Option.{option_map_or}
use Rattle.std.proofs.lemmas.Bool.{and_from, and_parts, cases_Bool, cases_lt, eq-eqb, eqb-true, false≢true, lt-ltb, ltb-true, or_cases, or_left, or_right}
use Rattle.std.proofs.lemmas.List.FromFn.{get_or-map-range_with_len, length-map-range_with_len}
use Rattle.gf256.specs.Field.{product}
use Rattle.raid_params.specs.Slots.{stands}
use Rattle.raid_params.specs.declared.types.Head.{Head}
use Rattle.row_relations.proofs.FieldSums.{sum_same}
use Rattle.relation_prefix.specs.declared.equation.Equation.{Equation}
use Rattle.relation_prefix.specs.declared.row_ties.RowTies.{RowTies}
use Rattle.relation_prefix.specs.Equations.{slot_weight}
use Rattle.relation_prefix.specs.Prefixes.{Holds}
use Rattle.relation_prefix.specs.Sampled.{allows_by, has_slot_weight, has_weight, has_weights}
use Rattle.relation_prefix.specs.Systems.{sum_at, AreValues}
use Rattle.relation_prefix.specs.Ties.{coefficients_of, AreWeightsOf, CanHaveAll, HasWeight}
use Rattle.relation_prefix.proofs.Bytes.{all_from, byte_at, bytes_give, bytes_of, values_fit}
use Rattle.relation_prefix.proofs.Columns.{all_at}

sum_like : (c : List ℕ) (x y : ℕ → ℕ) → ((t : ℕ) → t < 8 → x t ≡ y t) → sum_at c x ≡ sum_at c y
unfolding sum_at
sum_like c x y h = sum_same 8 (λ t. product (get_or c t 0) (x t)) (λ t. product (get_or c t 0) (y t)) (λ t lt. ap (product (get_or c t 0)) (h t lt))

or_true : (b : Bool) → (b || true) ≡ true
or_true true = refl
or_true false = refl

-- what stands in the slots is held by one
pub stands_held : (slots : List (Option ℕ)) (k i : ℕ) → slice_index_or slots k None ≡ Some i → stands i slots ≡ true
unfolding stands
stands_held [] k i e = absurd (cc)
stands_held (None ∷ slots) zero i e = absurd (cc)
stands_held (None ∷ slots) (suc k) i e = stands_held slots k i e
stands_held (Some j ∷ slots) zero i e = let same : i ≡ j = cc in ap (λ (b : Bool). b || stands i slots) (eq-eqb i j same)
stands_held (Some j ∷ slots) (suc k) i e = ap (λ (b : Bool). (i == j) || b) (stands_held slots k i e) ∙ or_true (i == j)

stands_slot : (slots : List (Option ℕ)) (i : ℕ) → stands i slots ≡ true → (slot : ℕ) × Holds slots slot i
unfolding stands
stands_slot [] i e = absurd (false≢true e)
stands_slot (None ∷ slots) i e = let rest = stands_slot slots i e in (suc rest.0, ((let lt = rest.1.0 in omega arith), rest.1.1))
stands_slot (Some j ∷ slots) i e = elim (or_cases (i == j) (stands i slots) e) [
  | inl here ↦ (0, (omega arith, (let same = eqb-true i j here in ap (λ (k : ℕ). Some k) (sym same))))
  | inr later ↦ (let rest = stands_slot slots i later in (suc rest.0, ((let lt = rest.1.0 in omega arith), rest.1.1)))
]

-- the weight of an image
has_from : (ties : RowTies) (x : ℕ → ℕ) (bytes : List ℕ) (image weight : ℕ) → ((t : ℕ) → t < 8 → get_or bytes t 0 ≡ x t) → HasWeight ties x image weight → has_weight ties bytes image weight ≡ true
has_from ties x bytes image weight same h =
    let none = slice_index_or ties.zeros image false in
    let sum = sum_at (coefficients_of ties image) (slice_index bytes) in
    elim (cases_Bool none) [
      | inl blank ↦ or_left none (sum == weight) blank
      | inr some ↦ or_right none (sum == weight) (eq-eqb sum weight (sum_like (coefficients_of ties image) (slice_index bytes) x same ∙ h some))
    ]

has_to : (ties : RowTies) (bytes : List ℕ) (image weight : ℕ) → has_weight ties bytes image weight ≡ true → HasWeight ties (slice_index bytes) image weight
has_to ties bytes image weight h some =
    let none = slice_index_or ties.zeros image false in
    let sum = sum_at (coefficients_of ties image) (slice_index bytes) in
    elim (or_cases none (sum == weight) h) [
      | inl blank ↦ absurd (false≢true (sym some ∙ blank))
      | inr e ↦ eqb-true sum weight e
    ]

module _ (ties : RowTies) (head : Head) (row : ℕ) (slots : List (Option ℕ)) (equation : Equation) (weights : List ℕ) (few : length slots ≤ head.members)
    (weigh : AreWeightsOf head row equation (length slots) weights) where
  slot_to : (bytes : List ℕ) (slot image : ℕ) → slice_index_or slots slot None ≡ Some image → has_slot_weight ties head row slots equation bytes slot ≡ true →
      has_weight ties bytes image (slot_weight head row equation slot) ≡ true
  slot_to bytes slot image e h = subst (λ (o : Option ℕ). option_map_or (λ i. has_weight ties bytes i (slot_weight head row equation slot)) o true ≡ true) e h

  slot_from : (bytes : List ℕ) (slot : ℕ) (held : Option ℕ) → ((image : ℕ) → held ≡ Some image → has_weight ties bytes image (slot_weight head row equation slot) ≡ true) →
      option_map_or (λ i. has_weight ties bytes i (slot_weight head row equation slot)) held true ≡ true
  slot_from bytes slot None h = refl
  slot_from bytes slot (Some i) h = h i refl

  -- bytes with which all images have their weights are such values
  to : (bytes : List ℕ) → AreValues (slice_index bytes) → has_weights ties head row slots equation bytes ≡ true → CanHaveAll ties weights head.members slots
  to bytes fits h =
      let held = has_slot_weight ties head row slots equation bytes in
      let foreign = λ (image : ℕ). stands image slots || has_weight ties bytes image 0 in
      let parts = and_parts (list_all held (range_with_len 0 (length slots))) (nat_lt (length slots) head.members || list_all foreign (range_with_len 0 ties.images)) h in (
        slice_index bytes,
        record {
          bytes = fits;
          held = λ slot image lt e.
              subst (λ (v : ℕ). HasWeight ties (slice_index bytes) image v) (sym (weigh slot lt))
              (has_to ties bytes image (slot_weight head row equation slot) (slot_to bytes slot image e (all_at held 0 (length slots) parts.0 slot (omega arith) (omega arith))));
          foreign = λ whole image lt none.
              elim (or_cases (nat_lt (length slots) head.members) (list_all foreign (range_with_len 0 ties.images)) parts.1) [
                | inl short ↦ absurd (let less = ltb-true (length slots) head.members short in omega arith)
                | inr all ↦
                    elim (or_cases (stands image slots) (has_weight ties bytes image 0) (all_at foreign 0 ties.images all image (omega arith) (omega arith))) [
                      | inl held ↦ absurd (let slot = stands_slot slots image held in none slot.0 slot.1)
                      | inr e ↦ has_to ties bytes image 0 e
                    ]
              ];
        },
      )

  -- and such values are bytes with which all images have their weights
  from : (bytes : List ℕ) → (v : CanHaveAll ties weights head.members slots) → ((t : ℕ) → t < 8 → get_or bytes t 0 ≡ v.0 t) → has_weights ties head row slots equation bytes ≡ true
  from bytes v same =
      let held = has_slot_weight ties head row slots equation bytes in
      let foreign = λ (image : ℕ). stands image slots || has_weight ties bytes image 0 in
      and_from (list_all held (range_with_len 0 (length slots))) (nat_lt (length slots) head.members || list_all foreign (range_with_len 0 ties.images))
      (all_from held 0 (length slots)
      (λ slot low high. slot_from bytes slot (slice_index_or slots slot None)
      (λ image e. has_from ties v.0 bytes image (slot_weight head row equation slot) same (subst (λ (u : ℕ). HasWeight ties v.0 image u) (weigh slot (omega arith)) (v.1.held slot image (omega arith) e)))))
      (elim (cases_lt (length slots) head.members) [
        | inl short ↦ or_left (nat_lt (length slots) head.members) (list_all foreign (range_with_len 0 ties.images)) (lt-ltb (length slots) head.members short)
        | inr whole ↦
            or_right (nat_lt (length slots) head.members) (list_all foreign (range_with_len 0 ties.images))
            (all_from foreign 0 ties.images
            (λ image low high. elim (cases_Bool (stands image slots)) [
              | inl there ↦ or_left (stands image slots) (has_weight ties bytes image 0) there
              | inr not ↦
                  or_right (stands image slots) (has_weight ties bytes image 0)
                  (has_from ties v.0 bytes image 0 same (v.1.foreign (omega arith) image (omega arith) (λ slot holds. false≢true (sym not ∙ stands_held slots slot image holds.1))))
            ]))
      ])

  pub told : Decides (allows_by ties head row slots equation) (CanHaveAll ties weights head.members slots)
  unfolding allows_by
  told = (
    λ h. (let some = bytes_of 8 (has_weights ties head row slots equation) h in to some.0 (byte_at some.0 some.2) some.3),
    λ v.
        bytes_give 8 (has_weights ties head row slots equation) (map v.0 (range_with_len 0 8)) (length-map-range_with_len v.0 0 8) (values_fit v.0 v.1.bytes 0 8)
        (from (map v.0 (range_with_len 0 8)) v (λ t lt. get_or-map-range_with_len v.0 0 8 t t 0 lt (omega arith))),
  )
