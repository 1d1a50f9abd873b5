-- The relations of a row are the sums of multiples of the ties of its table.
use Rattle.std.proofs.Common.{ℕ, zero, suc, ◌≡◌, ◌≢◌, ◌<◌, ◌≤◌, ◌+◌, ◌*◌, ◌⊎◌, ◌&&◌, nat_eq, true, false, cond, List, get_or, bit_xor, refl, sym, ap, subst, ◌∙◌, arith, inl, inr}
use Rattle.std.proofs.lemmas.Bool.{cases_eq, cases_lt, eq-eqb, ne_eqb}
use Rattle.gf256.specs.Field.{product}
use Rattle.gf256.proofs.Sums.{sum_fits, sum_self, sum_zero, equal_from_sum}
use Rattle.gf256.proofs.Products.{associates, additive_left, additive_right, product_fits, product_zero, product_zero_left}
use Rattle.gf256.proofs.Powers.{commutes, product_one}
use Rattle.row_relations.specs.declared.standing.Standing.{Standing}
use Rattle.row_relations.specs.declared.standing.Standing.TheVariants.{Zero, Independent, Dependent}
use Rattle.row_relations.specs.Rows.{byte_of, combined, field_sum, AreBytes}
use Rattle.row_relations.specs.Tables.{Table, is_independent, no_weights, standing_of, weight_of, weights_of, IsTable, Stands, WeighBefore}
use Rattle.row_relations.specs.Laws.{tied_weight, RelationsAreSumsOfTies}
use Rattle.row_relations.specs.Stages.{Over}
use Rattle.row_relations.proofs.FieldSums.{both, no_sum, next_sum, sum_same, sum_of_zeros, sum_is_byte, sum_splits, sum_scales, sum_turns, sum_ends, sum_of_one}
use Rattle.row_relations.proofs.Combined.{combined_of_zeros, combined_same}
use Rattle.row_relations.proofs.Independence.{apart}
use Rattle.row_relations.proofs.Unique.{either, no_weight, over_of, weigh_none}

-- 1 where image i is independent and is image j
pub own : Table → ℕ → ℕ → ℕ
own table i j = cond (nat_eq i j && is_independent (standing_of table i)) 1 0

-- the weight of image j in image i: its own where that is independent
pub entry : Table → ℕ → ℕ → ℕ
entry table i j = bit_xor (weight_of table i j) (own table i j)

own_fits : (table : Table) (i j : ℕ) → own table i j < 256
unfolding own
own_fits table i j = elim (nat_eq i j && is_independent (standing_of table i)) as (λ b. cond b 1 0 < 256) [ true ↦ omega arith | false ↦ omega arith ]

own_other : (table : Table) (i j : ℕ) → j ≢ i → own table i j ≡ 0
unfolding own
own_other table i j ne = ap (λ b. cond (b && is_independent (standing_of table i)) 1 0) (ne_eqb i j (λ e. ne (sym e)))

own_off : (table : Table) (i j : ℕ) → is_independent (standing_of table i) ≡ false → own table i j ≡ 0
unfolding own
own_off table i j off = elim (cases_eq i j) [
  | inl e ↦ ap (λ b. cond (b && is_independent (standing_of table i)) 1 0) (eq-eqb i j e) ∙ ap (λ b. cond b 1 0) off
  | inr ne ↦ own_other table i j (λ e. ne (sym e))
]

own_on : (table : Table) (i : ℕ) → standing_of table i ≡ Independent → own table i i ≡ 1
unfolding own
own_on table i on = ap (λ b. cond (b && is_independent (standing_of table i)) 1 0) (eq-eqb i i refl) ∙ ap (λ s. cond (is_independent s) 1 0) on

-- the weights of an image are over the independent images before it
pub row_over : (sectors : List ℕ) (table : Table) (i : ℕ) (s : Standing) → Stands sectors table i s → Over table i (λ j. weight_of table i j)
row_over sectors table i Zero h = over_of table i (weights_of table i) (let P : List ℕ → Type 0 = λ w. WeighBefore table i w in subst P (sym h.1) (weigh_none table i))
row_over sectors table i Independent h = over_of table i (weights_of table i) (let P : List ℕ → Type 0 = λ w. WeighBefore table i w in subst P (sym h.1) (weigh_none table i))
row_over sectors table i Dependent h = over_of table i (weights_of table i) h.1

-- an image of zeros, and an independent one, have no weights
pub unweighed : (table : Table) (i : ℕ) → weights_of table i ≡ no_weights → (j : ℕ) → weight_of table i j ≡ 0
unweighed table i e j = ap (λ (w : List ℕ). get_or w j 0) e ∙ no_weight j

-- an image is the sum of the images, by the entries of its row
row_is : (images : ℕ) (sectors : List ℕ) (table : Table) (i c : ℕ) → i < images → c < 512 → AreBytes sectors → (s : Standing) → standing_of table i ≡ s → Stands sectors table i s →
    combined images (λ j. entry table i j) sectors c ≡ byte_of sectors i c
unfolding entry
row_is images sectors table i c lt inside bytes Zero e h =
    combined_of_zeros images (λ j. bit_xor (weight_of table i j) (own table i j)) sectors c
    (λ j below. both (weight_of table i j) (own table i j) 0 0 (unweighed table i h.1 j) (own_off table i j (ap is_independent e)))
    ∙ sym (h.0 c inside)
row_is images sectors table i c lt inside bytes Independent e h =
    let b = λ (j : ℕ). byte_of sectors j c in
    let f = λ (j : ℕ). product (bit_xor (weight_of table i j) (own table i j)) (b j) in
    let zero_at : (j : ℕ) → j ≢ i → f j ≡ 0 = λ j ne. ap (λ (x : ℕ). product x (b j)) (both (weight_of table i j) (own table i j) 0 0 (unweighed table i h.1 j) (own_other table i j ne)) ∙ product_zero_left (b j) in
    let one : bit_xor (weight_of table i i) (own table i i) ≡ 1 = both (weight_of table i i) (own table i i) 0 1 (unweighed table i h.1 i) (own_on table i e) in
    sum_of_one images i f lt zero_at ∙ ap (λ (x : ℕ). product x (b i)) one ∙ commutes 1 (b i) (omega arith) (bytes (512 * i + c)) ∙ product_one (b i) (bytes (512 * i + c))
row_is images sectors table i c lt inside bytes Dependent e h =
    let f = λ (j : ℕ). product (weight_of table i j) (byte_of sectors j c) in
    let over = row_over sectors table i Dependent h in
    combined_same images (λ j. bit_xor (weight_of table i j) (own table i j)) (λ j. weight_of table i j) sectors c
    (λ j below. ap (bit_xor (weight_of table i j)) (own_off table i j (ap is_independent e)) ∙ sum_zero (weight_of table i j))
    ∙ sum_ends i images f (omega arith) (λ j past. elim (cases_eq (weight_of table i j) 0) [
      | inl z ↦ ap (λ (x : ℕ). product x (byte_of sectors j c)) z ∙ product_zero_left (byte_of sectors j c)
      | inr ne ↦ absurd (let below : j < i = over.below j ne in omega arith)
    ])
    ∙ sym (h.2 c inside)

entry_fits : (sectors : List ℕ) (table : Table) (i j : ℕ) → Stands sectors table i (standing_of table i) → entry table i j < 256
unfolding entry
entry_fits sectors table i j h = sum_fits (weight_of table i j) (own table i j) ((row_over sectors table i (standing_of table i) h).bytes j) (own_fits table i j)

independent_or_not : (s : Standing) → (s ≡ Independent) ⊎ (is_independent s ≡ false)
independent_or_not Zero = inr refl
independent_or_not Independent = inl refl
independent_or_not Dependent = inr refl

-- the entries are at independent images alone, and at no image after
entry_on : (sectors : List ℕ) (table : Table) (i j : ℕ) → Stands sectors table i (standing_of table i) → entry table i j ≢ 0 → (j < suc i) × (standing_of table j ≡ Independent)
unfolding entry
entry_on sectors table i j h ne = elim (either (weight_of table i j) (own table i j) ne) [
  | inl l ↦ (let below : j < i = (row_over sectors table i (standing_of table i) h).below j l in omega arith, (row_over sectors table i (standing_of table i) h).independent j l)
  | inr r ↦ elim (cases_eq j i) [
    | inr other ↦ absurd (r (own_other table i j other))
    | inl e ↦ elim (independent_or_not (standing_of table i)) [
      | inl on ↦ (omega arith, ap (standing_of table) e ∙ on)
      | inr off ↦ absurd (r (own_off table i j off))
    ]
  ]
]

-- the sum of the images, each times its weight, by independent ones alone
pub gathered : ℕ → Table → List ℕ → ℕ → ℕ
gathered images table v j = field_sum images (λ i. product (get_or v i 0) (entry table i j))

pub scales_right : (n b : ℕ) (f : ℕ → ℕ) → ((i : ℕ) → i < n → f i < 256) → field_sum n (λ i. product (f i) b) ≡ product (field_sum n f) b
scales_right zero b f h = no_sum (λ i. product (f i) b) ∙ sym (ap (λ (x : ℕ). product x b) (no_sum f) ∙ product_zero_left b)
scales_right (suc n) b f h =
    next_sum n (λ i. product (f i) b) ∙ ap (λ (x : ℕ). bit_xor x (product (f n) b)) (scales_right n b f (λ i lt. h i (omega arith)))
    ∙ sym (ap (λ (x : ℕ). product x b) (next_sum n f) ∙ additive_left (field_sum n f) (f n) b (sum_is_byte n f (λ i lt. h i (omega arith))) (h n (omega arith)))

module _ (images : ℕ) (sectors : List ℕ) (table : Table) (few : images ≤ 64) (bytes : AreBytes sectors) (is : IsTable images sectors table) (v : List ℕ) (vs : AreBytes v) where
  gathers : (c : ℕ) → c < 512 → combined images (λ i. get_or v i 0) sectors c ≡ combined images (gathered images table v) sectors c
  unfolding gathered
  gathers c inside =
      let b = λ (j : ℕ). byte_of sectors j c in
      let x = λ (i : ℕ). get_or v i 0 in
      let e = λ (i j : ℕ). entry table i j in
      sum_same images (λ i. product (x i) (b i)) (λ i. field_sum images (λ j. product (product (x i) (e i j)) (b j)))
      (λ i lt. ap (product (x i)) (sym (row_is images sectors table i c lt inside bytes (standing_of table i) refl (is.each i lt)))
      ∙ sym (sum_scales images (x i) (λ j. product (e i j) (b j)) (vs i))
      ∙ sum_same images (λ j. product (x i) (product (e i j) (b j))) (λ j. product (product (x i) (e i j)) (b j))
      (λ j below. sym (associates (x i) (e i j) (b j) (vs i) (entry_fits sectors table i j (is.each i lt)))))
      ∙ sum_turns images images (λ i j. product (product (x i) (e i j)) (b j))
      ∙ sum_same images (λ j. field_sum images (λ i. product (product (x i) (e i j)) (b j))) (λ j. product (field_sum images (λ i. product (x i) (e i j))) (b j))
      (λ j below. scales_right images (b j) (λ i. product (x i) (e i j)) (λ i lt. product_fits (x i) (e i j) (vs i)))

  gathered_over : Over table images (gathered images table v)
  unfolding gathered
  gathered_over = record {
    bytes = λ j. sum_is_byte images (λ i. product (get_or v i 0) (entry table i j)) (λ i lt. product_fits (get_or v i 0) (entry table i j) (vs i));
    below = λ j ne. elim (cases_lt j images) [
      | inl lt ↦ lt
      | inr past ↦ absurd (ne (sum_of_zeros images (λ i. product (get_or v i 0) (entry table i j)) (λ i lt. elim (cases_eq (entry table i j) 0) [
        | inl z ↦ ap (product (get_or v i 0)) z ∙ product_zero (get_or v i 0)
        | inr some ↦ absurd (let below : j < suc i = (entry_on sectors table i j (is.each i lt) some).0 in omega arith)
      ])))
    ];
    independent = λ j ne. elim (independent_or_not (standing_of table j)) [
      | inl on ↦ on
      | inr off ↦ absurd (ne (sum_of_zeros images (λ i. product (get_or v i 0) (entry table i j)) (λ i lt. elim (cases_eq (entry table i j) 0) [
        | inl z ↦ ap (product (get_or v i 0)) z ∙ product_zero (get_or v i 0)
        | inr some ↦ absurd (let on : standing_of table j ≡ Independent = (entry_on sectors table i j (is.each i lt) some).1 in let t : true ≡ false = sym (ap is_independent on) ∙ off in cc)
      ])))
    ];
  }

  -- at an independent image that is its own weight, and that of the ties
  gathered_at : (j : ℕ) → j < images → standing_of table j ≡ Independent → gathered images table v j ≡ bit_xor (tied_weight table images v j) (get_or v j 0)
  unfolding gathered entry
  gathered_at j lt on =
      let x = λ (i : ℕ). get_or v i 0 in
      sum_same images (λ i. product (x i) (bit_xor (weight_of table i j) (own table i j))) (λ i. bit_xor (product (x i) (weight_of table i j)) (product (x i) (own table i j)))
      (λ i below. additive_right (x i) (weight_of table i j) (own table i j) (vs i))
      ∙ sum_splits images (λ i. product (x i) (weight_of table i j)) (λ i. product (x i) (own table i j))
      ∙ ap (bit_xor (tied_weight table images v j))
      (sum_of_one images j (λ i. product (x i) (own table i j)) lt (λ i ne. ap (product (x i)) (own_other table i j (λ e. ne (sym e))) ∙ product_zero (x i))
      ∙ ap (product (x j)) (own_on table j on) ∙ product_one (x j) (vs j))

  relation_ties : ((c : ℕ) → c < 512 → combined images (λ i. get_or v i 0) sectors c ≡ 0) → (j : ℕ) → j < images → standing_of table j ≡ Independent →
      get_or v j 0 ≡ tied_weight table images v j
  relation_ties zeros j lt on =
      sym (equal_from_sum (tied_weight table images v j) (get_or v j 0)
      (sym (gathered_at j lt on) ∙ apart images sectors table few bytes is images (omega arith) (gathered images table v) gathered_over (λ c inside. sym (gathers c inside) ∙ zeros c inside) j))

  ties_relate : ((j : ℕ) → j < images → standing_of table j ≡ Independent → get_or v j 0 ≡ tied_weight table images v j) → (c : ℕ) → c < 512 →
      combined images (λ i. get_or v i 0) sectors c ≡ 0
  ties_relate ties c inside =
      gathers c inside ∙ combined_of_zeros images (gathered images table v) sectors c (λ j lt. elim (cases_eq (gathered images table v j) 0) [
        | inl z ↦ z
        | inr ne ↦
            (let on : standing_of table j ≡ Independent = gathered_over.independent j ne in
            gathered_at j lt on ∙ ap (bit_xor (tied_weight table images v j)) (ties j lt on) ∙ sum_self (tied_weight table images v j))
      ])

pub relations_are_ties : RelationsAreSumsOfTies
relations_are_ties images sectors table v few bytes is = (
  λ r. record { long = r.long; bytes = r.bytes; independent = relation_ties images sectors table few bytes is v r.bytes r.cancels },
  λ t. record { long = t.long; bytes = t.bytes; cancels = ties_relate images sectors table few bytes is v t.bytes t.independent },
)
