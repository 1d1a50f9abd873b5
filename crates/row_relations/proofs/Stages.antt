-- One more image of a row.
use Rattle.std.proofs.Common.{ℕ, suc, ◌≡◌, ◌≢◌, ◌<◌, ◌+◌, ◌*◌, List, [], ◌∷◌, ◌++◌, length, get_or, slice_index_or, map, bit_xor, sym, ap, subst, ◌∙◌, arith, inl, inr}
use Rattle.std.proofs.Math.ListN.{set, length-set, get_or-map as map_at, get_or-append}
use Rattle.std.proofs.Math.Seq.{get_or-append_seam}
use Rattle.std.proofs.lemmas.Bool.{cases_eq, cases_lt}
use Rattle.std.proofs.lemmas.List.{get_or-set_same, get_or-set_other, length-append, length-map}
use Rattle.std.proofs.lemmas.List.Elements.{All-nil, All-push}
use Rattle.gf256.specs.Field.{product}
use Rattle.gf256.proofs.Sums.{sum_associates, sum_commutes, sum_fits, sum_self, sum_zero, equal_from_sum}
use Rattle.gf256.proofs.Products.{additive_right, product_fits, product_zero, product_zero_left}
use Rattle.gf256.proofs.Powers.{commutes, product_one}
use Rattle.gf256.proofs.Undoing.{no_divisor}
use Rattle.row_relations.specs.declared.combination.Combination.{Combination}
use Rattle.row_relations.specs.declared.standing.Standing.{Standing}
use Rattle.row_relations.specs.declared.standing.Standing.TheVariants.{Zero, Independent, Dependent}
use Rattle.row_relations.specs.Rows.{byte_of, combined, weighed_byte, AreBytes, IsZeros}
use Rattle.row_relations.specs.Tables.{Table, no_weights, standing_of, weights_of, IsSum, Stands, WeighBefore}
use Rattle.row_relations.specs.Stages.{with_image, AreCleared, IsKept, IsRest, IsStage, Over, VanishAt}
use Rattle.row_relations.proofs.FieldSums.{both, next_sum}
use Rattle.row_relations.proofs.Combined.{combined_adds, combined_is_byte, combined_of_zeros, combined_same, combined_scales}
use Rattle.row_relations.proofs.Independence.{cut, cut_below, cut_past}
use Rattle.row_relations.proofs.Unique.{either, no_weight, over_of, over_sum, weigh_alike, weigh_none}

pub stage_none : (sectors : List ℕ) (table : Table) → IsStage sectors table 0 []
stage_none sectors table = record {
  each = λ j lt. absurd (omega arith);
  combinations = All-nil (IsKept sectors table 0);
  cleared = λ j k d lt le. absurd (omega arith);
  apart = λ w over vanish j. elim (cases_eq (w j) 0) [ inl e ↦ e | inr ne ↦ absurd (let lt : j < 0 = over.below j ne in omega arith) ];
}

-- the sum of one image more, where that has no weight
combined_last : (n : ℕ) (w : ℕ → ℕ) (sectors : List ℕ) (c : ℕ) → w n ≡ 0 → combined (suc n) w sectors c ≡ combined n w sectors c
combined_last n w sectors c e =
    next_sum n (λ i. product (w i) (byte_of sectors i c)) ∙ ap (bit_xor (combined n w sectors c)) (ap (λ (a : ℕ). product a (byte_of sectors n c)) e ∙ product_zero_left (byte_of sectors n c))
    ∙ sum_zero (combined n w sectors c)

none_at : (table : Table) (n : ℕ) (weights : List ℕ) → WeighBefore table n weights → get_or weights n 0 ≡ 0
none_at table n weights h = elim (cases_eq (get_or weights n 0) 0) [ inl e ↦ e | inr ne ↦ absurd (let lt : n < n = h.before n ne in omega arith) ]

-- what the images before say stays
stands_moved : (sectors : List ℕ) (table other : Table) (n j : ℕ) (s : Standing) → ((k : ℕ) → k < n → standing_of table k ≡ standing_of other k) → weights_of table j ≡ weights_of other j → j < n →
    Stands sectors table j s → Stands sectors other j s
stands_moved sectors table other n j Zero agree e lt h = (h.0, sym e ∙ h.1)
stands_moved sectors table other n j Independent agree e lt h =
    (λ weights weigh sum. h.0 weights (weigh_alike other table n j weights (λ k below. sym (agree k below)) (omega arith) weigh) sum, sym e ∙ h.1)
stands_moved sectors table other n j Dependent agree e lt h =
    (h.0, subst (λ (w : List ℕ). WeighBefore other j w) e (weigh_alike table other n j (weights_of table j) agree (omega arith) h.1), subst (λ (w : List ℕ). IsSum sectors j w) e h.2)

module _ (sectors : List ℕ) (table : Table) (n : ℕ) (s : Standing) (ws : List ℕ) (in_s : n < length table.standings) (in_w : n < length table.weights) where
  stands_at : standing_of (with_image table n s ws) n ≡ s
  stands_at = get_or-set_same table.standings n s Zero in_s

  weights_at : weights_of (with_image table n s ws) n ≡ ws
  weights_at = get_or-set_same table.weights n ws [] in_w

  agrees : (k : ℕ) → k < n → standing_of table k ≡ standing_of (with_image table n s ws) k
  agrees k lt = sym (get_or-set_other table.standings n k s Zero (λ e. absurd (omega arith)))

  each_moved : ((j : ℕ) → j < n → Stands sectors table j (standing_of table j)) → Stands sectors (with_image table n s ws) n s → (j : ℕ) → j < suc n →
      Stands sectors (with_image table n s ws) j (standing_of (with_image table n s ws) j)
  each_moved each here j lt = elim (cases_lt j n) [
    | inl below ↦ subst (λ (t : Standing). Stands sectors (with_image table n s ws) j t) (agrees j below)
        (stands_moved sectors table (with_image table n s ws) n j (standing_of table j) agrees (sym (get_or-set_other table.weights n j ws [] (λ e. absurd (omega arith)))) below (each j below))
    | inr past ↦
        (let e : n ≡ j = omega arith in
        subst (λ (k : ℕ). Stands sectors (with_image table n s ws) k (standing_of (with_image table n s ws) k)) e (subst (λ (t : Standing). Stands sectors (with_image table n s ws) n t) (sym stands_at) here))
  ]

  weigh_more : (weights : List ℕ) → WeighBefore table n weights → WeighBefore (with_image table n s ws) (suc n) weights
  weigh_more weights h = record {
    long = h.long;
    bytes = h.bytes;
    before = λ j ne. (let lt : j < n = h.before j ne in omega arith);
    independent = λ j ne. sym (agrees j (h.before j ne)) ∙ h.independent j ne;
  }

  kept_more : (x : Combination) → IsKept sectors table n x → IsKept sectors (with_image table n s ws) (suc n) x
  kept_more x h = record {
    weigh = weigh_more x.weights h.weigh;
    sum = λ c inside. h.sum c inside ∙ sym (combined_last n (λ j. get_or x.weights j 0) sectors c (none_at table n x.weights h.weigh));
    pivot = h.pivot;
    one = h.one;
  }

  over_less : (w : ℕ → ℕ) → Over (with_image table n s ws) (suc n) w → w n ≡ 0 → Over table n w
  over_less w over z = record {
    bytes = over.bytes;
    below = λ j ne. below j ne;
    independent = λ j ne. agrees j (below j ne) ∙ over.independent j ne;
  }
    where
      below : (j : ℕ) → w j ≢ 0 → j < n
      below j ne = elim (cases_eq j n) [ inl same ↦ absurd (ne (ap w same ∙ z)) | inr other ↦ (let lt : j < suc n = over.below j ne in omega arith) ]

  -- an image that is not independent
  pub stage_skips : (kept : List Combination) → s ≢ Independent → Stands sectors (with_image table n s ws) n s → IsStage sectors table n kept → IsStage sectors (with_image table n s ws) (suc n) kept
  stage_skips kept ne here h = record {
    each = each_moved h.each here;
    combinations = λ k d lt. kept_more (slice_index_or kept k d) (h.combinations k d lt);
    cleared = h.cleared;
    apart = λ w over vanish.
        (let z : w n ≡ 0 = elim (cases_eq (w n) 0) [ inl e ↦ e | inr some ↦ absurd (ne (sym stands_at ∙ over.independent n some)) ] in
        h.apart w (over_less w over z) (λ k d lt. sym (combined_last n w sectors (slice_index_or kept k d).pivot z) ∙ vanish k d lt));
  }

-- an image of zeros
pub zero_stands : (sectors : List ℕ) (table : Table) (n : ℕ) → n < length table.standings → n < length table.weights → IsZeros sectors n →
    Stands sectors (with_image table n Zero no_weights) n Zero
zero_stands sectors table n in_s in_w h = (h, weights_at sectors table n Zero no_weights in_s in_w)

-- an image of which nothing is left
pub dependent_stands : (sectors : List ℕ) (table : Table) (n : ℕ) (rest : Combination) → n < length table.standings → n < length table.weights → (IsZeros sectors n → ⊥) → IsRest sectors table n rest →
    ((c : ℕ) → c < 512 → get_or rest.sector c 0 ≡ 0) → Stands sectors (with_image table n Dependent rest.weights) n Dependent
dependent_stands sectors table n rest in_s in_w some is zeros =
    let e = sym (weights_at sectors table n Dependent rest.weights in_s in_w) in (
      some,
      subst (λ (w : List ℕ). WeighBefore (with_image table n Dependent rest.weights) n w) e
          (weigh_alike table (with_image table n Dependent rest.weights) n n rest.weights (agrees sectors table n Dependent rest.weights in_s in_w) (omega arith) is.weigh),
      subst (λ (w : List ℕ). IsSum sectors n w) e
          (λ c inside. equal_from_sum (byte_of sectors n c) (weighed_byte n rest.weights sectors c) (sym (is.sum c inside) ∙ zeros c inside)),
    )

-- each byte times a factor, at any place
scaled_at : (factor : ℕ) (xs : List ℕ) (c : ℕ) → get_or (map (product factor) xs) c 0 ≡ product factor (get_or xs c 0)
scaled_at factor xs c = ap (get_or (map (product factor) xs) c) (sym (product_zero factor)) ∙ map_at (product factor) xs c 0

zero_sum : (a : ℕ) → bit_xor 0 a ≡ a
zero_sum a = sum_commutes 0 a ∙ sum_zero a

-- what is left of an image is kept, made 1 at a place where it is not 0
pub record IsNormal (rest x : Combination) (n p factor : ℕ) : Type 0 where
  pub pivot : x.pivot ≡ p
  pub fits : factor < 256
  pub inverse : product (get_or rest.sector p 0) factor ≡ 1
  pub sector : x.sector ≡ map (product factor) rest.sector
  pub weights : x.weights ≡ map (product factor) (set rest.weights n 1)

module _ (sectors : List ℕ) (table : Table) (n : ℕ) (kept : List Combination) (rest x : Combination) (p factor : ℕ) (room : n < 64)
    (in_s : n < length table.standings) (in_w : n < length table.weights) (bytes : AreBytes sectors) (h : IsStage sectors table n kept) (is : IsRest sectors table n rest)
    (vanish : VanishAt kept (λ c. get_or rest.sector c 0)) (inside : p < 512) (ne : get_or rest.sector p 0 ≢ 0) (normal : IsNormal rest x n p factor) where
  rest_fits : (c : ℕ) → c < 512 → get_or rest.sector c 0 < 256
  rest_fits c below =
      subst (λ (b : ℕ). b < 256) (sym (is.sum c below)) (sum_fits (byte_of sectors n c) (weighed_byte n rest.weights sectors c) (bytes (512 * n + c))
      (combined_is_byte n (λ j. get_or rest.weights j 0) sectors c is.weigh.bytes))

  -- it is no sum of those before it
  stands_alone : Stands sectors (with_image table n Independent no_weights) n Independent
  stands_alone = (
    λ weights weigh sum.
        (let back = weigh_alike (with_image table n Independent no_weights) table n n weights (λ k below. sym (agrees sectors table n Independent no_weights in_s in_w k below)) (omega arith) weigh in
        let f = λ (j : ℕ). get_or weights j 0 in
        let g = λ (j : ℕ). get_or rest.weights j 0 in
        let together : (c : ℕ) → c < 512 → combined n (λ j. bit_xor (f j) (g j)) sectors c ≡ get_or rest.sector c 0 =
        λ c below. combined_adds n f g sectors c back.bytes is.weigh.bytes ∙ ap (λ (b : ℕ). bit_xor b (combined n g sectors c)) (sym (sum c below)) ∙ sym (is.sum c below) in
        let all = h.apart (λ j. bit_xor (f j) (g j)) (over_sum table n f g (over_of table n weights back) (over_of table n rest.weights is.weigh))
        (λ k d lt. together (slice_index_or kept k d).pivot (h.combinations k d lt).pivot ∙ vanish k d lt) in
        ne (sym (together p inside) ∙ combined_of_zeros n (λ j. bit_xor (f j) (g j)) sectors p (λ j lt. all j))),
    weights_at sectors table n Independent no_weights in_s in_w,
  )

  sector_at : (c : ℕ) → get_or x.sector c 0 ≡ product factor (get_or rest.sector c 0)
  sector_at c = ap (λ (xs : List ℕ). get_or xs c 0) normal.sector ∙ scaled_at factor rest.sector c

  weight_here : get_or x.weights n 0 ≡ factor
  weight_here =
      ap (λ (xs : List ℕ). get_or xs n 0) normal.weights ∙ scaled_at factor (set rest.weights n 1) n
      ∙ ap (product factor) (get_or-set_same rest.weights n 1 0 (omega (arith, is.weigh.long))) ∙ product_one factor normal.fits

  weight_other : (j : ℕ) → j ≢ n → get_or x.weights j 0 ≡ product factor (get_or rest.weights j 0)
  weight_other j other =
      ap (λ (xs : List ℕ). get_or xs j 0) normal.weights ∙ scaled_at factor (set rest.weights n 1) j ∙ ap (product factor) (get_or-set_other rest.weights n j 1 0 other)

  weight_some : (j : ℕ) → j ≢ n → get_or x.weights j 0 ≢ 0 → get_or rest.weights j 0 ≢ 0
  weight_some j other some z = some (weight_other j other ∙ ap (product factor) z ∙ product_zero factor)

  new_kept : IsKept sectors (with_image table n Independent no_weights) (suc n) x
  new_kept = record {
    weigh = record {
      long = ap length normal.weights ∙ length-map (set rest.weights n 1) (product factor) ∙ length-set rest.weights n 1 ∙ is.weigh.long;
      bytes = λ j. subst (λ (b : ℕ). b < 256) (sym (ap (λ (xs : List ℕ). get_or xs j 0) normal.weights ∙ scaled_at factor (set rest.weights n 1) j)) (product_fits factor (get_or (set rest.weights n 1) j 0) normal.fits);
      before = λ j some. elim (cases_eq j n) [ inl e ↦ omega arith | inr other ↦ (let lt : j < n = is.weigh.before j (weight_some j other some) in omega arith) ];
      independent = λ j some. elim (cases_eq j n) [
        | inl e ↦ ap (standing_of (with_image table n Independent no_weights)) e ∙ stands_at sectors table n Independent no_weights in_s in_w
        | inr other ↦ sym (agrees sectors table n Independent no_weights in_s in_w j (is.weigh.before j (weight_some j other some))) ∙ is.weigh.independent j (weight_some j other some)
      ];
    };
    sum = λ c below.
        (let g = λ (j : ℕ). get_or rest.weights j 0 in
        let b = byte_of sectors n c in
        sector_at c ∙ ap (product factor) (is.sum c below ∙ sum_commutes b (combined n g sectors c)) ∙ additive_right factor (combined n g sectors c) b normal.fits
        ∙ sym (next_sum n (λ j. product (get_or x.weights j 0) (byte_of sectors j c))
        ∙ both (combined n (λ j. get_or x.weights j 0) sectors c) (product (get_or x.weights n 0) b) (product factor (combined n g sectors c)) (product factor b)
        (combined_same n (λ j. get_or x.weights j 0) (λ j. product factor (g j)) sectors c (λ j lt. weight_other j (λ e. absurd (omega arith))) ∙ combined_scales n factor g sectors c normal.fits is.weigh.bytes)
        (ap (λ (a : ℕ). product a b) weight_here)));
    pivot = subst (λ (q : ℕ). q < 512) (sym normal.pivot) inside;
    one = ap (λ (q : ℕ). get_or x.sector q 0) normal.pivot ∙ sector_at p ∙ commutes factor (get_or rest.sector p 0) normal.fits (rest_fits p inside) ∙ normal.inverse;
  }

  new_cleared : AreCleared (kept ++ x ∷ [])
  new_cleared j k d lt below = elim (cases_lt k (length kept)) [
    | inl first ↦
        ap (λ (y : Combination). get_or y.sector (slice_index_or (kept ++ x ∷ []) j d).pivot 0) (get_or-append kept (x ∷ []) d k first)
        ∙ ap (λ (y : Combination). get_or (slice_index_or kept k d).sector y.pivot 0) (get_or-append kept (x ∷ []) d j (omega arith)) ∙ h.cleared j k d lt first
    | inr last ↦
        (let e : k ≡ length kept = omega (arith, length-append kept (x ∷ [])) in
        let first : j < length kept = omega arith in
        ap (λ (i : ℕ). get_or (slice_index_or (kept ++ x ∷ []) i d).sector (slice_index_or (kept ++ x ∷ []) j d).pivot 0) e
        ∙ ap (λ (y : Combination). get_or y.sector (slice_index_or (kept ++ x ∷ []) j d).pivot 0) (get_or-append_seam kept x [] d)
        ∙ ap (λ (y : Combination). get_or x.sector y.pivot 0) (get_or-append kept (x ∷ []) d j first)
        ∙ sector_at (slice_index_or kept j d).pivot ∙ ap (product factor) (vanish j d first) ∙ product_zero factor)
  ]

  module _ (w : ℕ → ℕ) (over : Over (with_image table n Independent no_weights) (suc n) w) (zeros : VanishAt (kept ++ x ∷ []) (combined (suc n) w sectors)) where
    -- the weights without image n, which is the rest plus the sum of others
    cut_over : Over table n (cut (λ j. bit_xor (w j) (product (w n) (get_or rest.weights j 0))) n)
    cut_over = record {
      bytes = λ j. elim (cases_lt j n) [
        | inl lt ↦ rw (cut_below (λ j. bit_xor (w j) (product (w n) (get_or rest.weights j 0))) n j lt)
            (sum_fits (w j) (product (w n) (get_or rest.weights j 0)) (over.bytes j) (product_fits (w n) (get_or rest.weights j 0) (over.bytes n)))
        | inr past ↦ rw (cut_past (λ j. bit_xor (w j) (product (w n) (get_or rest.weights j 0))) n j past) (omega arith)
      ];
      below = λ j some. cut_lower j some;
      independent = λ j some. elim (either (w j) (product (w n) (get_or rest.weights j 0)) (λ z. some (cut_below (λ j. bit_xor (w j) (product (w n) (get_or rest.weights j 0))) n j (cut_lower j some) ∙ z))) [
        | inl l ↦ agrees sectors table n Independent no_weights in_s in_w j (cut_lower j some) ∙ over.independent j l
        | inr r ↦ is.weigh.independent j (λ z. r (ap (product (w n)) z ∙ product_zero (w n)))
      ];
    }
      where
        cut_lower : (j : ℕ) → cut (λ j. bit_xor (w j) (product (w n) (get_or rest.weights j 0))) n j ≢ 0 → j < n
        cut_lower j some = elim (cases_lt j n) [
          | inl lt ↦ lt
          | inr past ↦ absurd (some (cut_past (λ j. bit_xor (w j) (product (w n) (get_or rest.weights j 0))) n j past))
        ]

    -- their sum is that of the weights plus the rest times the weight of image n
    cut_sum : (c : ℕ) → c < 512 → combined n (cut (λ j. bit_xor (w j) (product (w n) (get_or rest.weights j 0))) n) sectors c
        ≡ bit_xor (combined (suc n) w sectors c) (product (w n) (get_or rest.sector c 0))
    cut_sum c below =
        let g = λ (j : ℕ). get_or rest.weights j 0 in
        let b = byte_of sectors n c in
        let all = combined n w sectors c in
        let part = combined n g sectors c in
        let a = w n in
        combined_same n (cut (λ j. bit_xor (w j) (product (w n) (get_or rest.weights j 0))) n) (λ j. bit_xor (w j) (product a (g j))) sectors c
        (λ j lt. cut_below (λ j. bit_xor (w j) (product (w n) (get_or rest.weights j 0))) n j lt)
        ∙ combined_adds n w (λ j. product a (g j)) sectors c over.bytes (λ j. product_fits a (g j) (over.bytes n))
        ∙ ap (bit_xor all) (combined_scales n a g sectors c (over.bytes n) is.weigh.bytes)
        ∙ sym (
        both (combined (suc n) w sectors c) (product a (get_or rest.sector c 0)) (bit_xor all (product a b)) (bit_xor (product a b) (product a part))
        (next_sum n (λ j. product (w j) (byte_of sectors j c))) (ap (product a) (is.sum c below) ∙ additive_right a b part (over.bytes n))
        ∙ sum_associates all (product a b) (bit_xor (product a b) (product a part))
        ∙ ap (bit_xor all) (sym (sum_associates (product a b) (product a b) (product a part)) ∙ ap (λ (y : ℕ). bit_xor y (product a part)) (sum_self (product a b)) ∙ zero_sum (product a part)))

    all_zero : (j : ℕ) → cut (λ j. bit_xor (w j) (product (w n) (get_or rest.weights j 0))) n j ≡ 0
    all_zero = h.apart (cut (λ j. bit_xor (w j) (product (w n) (get_or rest.weights j 0))) n) cut_over
        (λ k d lt. cut_sum (slice_index_or kept k d).pivot (h.combinations k d lt).pivot
        ∙ both (combined (suc n) w sectors (slice_index_or kept k d).pivot) (product (w n) (get_or rest.sector (slice_index_or kept k d).pivot 0)) 0 0
        (ap (λ (y : Combination). combined (suc n) w sectors y.pivot) (sym (get_or-append kept (x ∷ []) d k lt)) ∙ zeros k d (omega (arith, length-append kept (x ∷ []))))
        (ap (product (w n)) (vanish k d lt) ∙ product_zero (w n)))

    own_zero : w n ≡ 0
    own_zero = elim (cases_eq (w n) 0) [
      | inl z ↦ z
      | inr some ↦ absurd (ne (no_divisor (w n) (get_or rest.sector p 0) (over.bytes n) (rest_fits p inside)
          (sym (zero_sum (product (w n) (get_or rest.sector p 0))) ∙ ap (λ (y : ℕ). bit_xor y (product (w n) (get_or rest.sector p 0))) (sym at_pivot) ∙ sym (cut_sum p inside)
          ∙ combined_of_zeros n (cut (λ j. bit_xor (w j) (product (w n) (get_or rest.weights j 0))) n) sectors p (λ j lt. all_zero j)) some))
    ]
      where
        at_pivot : combined (suc n) w sectors p ≡ 0
        at_pivot =
            ap (combined (suc n) w sectors) (sym normal.pivot) ∙ ap (λ (y : Combination). combined (suc n) w sectors y.pivot) (sym (get_or-append_seam kept x [] x))
            ∙ zeros (length kept) x (omega (arith, length-append kept (x ∷ [])))

    new_apart : (j : ℕ) → w j ≡ 0
    new_apart j = elim (cases_lt j n) [
      | inl lt ↦
          sym (sum_zero (w j)) ∙ ap (bit_xor (w j)) (sym (ap (λ (a : ℕ). product a (get_or rest.weights j 0)) own_zero ∙ product_zero_left (get_or rest.weights j 0)))
          ∙ sym (cut_below (λ j. bit_xor (w j) (product (w n) (get_or rest.weights j 0))) n j lt) ∙ all_zero j
      | inr past ↦ elim (cases_eq j n) [
        | inl e ↦ ap w e ∙ own_zero
        | inr other ↦ elim (cases_eq (w j) 0) [ inl z ↦ z | inr some ↦ absurd (let lt : j < suc n = over.below j some in omega arith) ]
      ]
    ]

  pub stage_adds : IsStage sectors (with_image table n Independent no_weights) (suc n) (kept ++ x ∷ [])
  stage_adds = record {
    each = each_moved sectors table n Independent no_weights in_s in_w h.each stands_alone;
    combinations = All-push (IsKept sectors (with_image table n Independent no_weights) (suc n)) kept x
        (λ k d lt. kept_more sectors table n Independent no_weights in_s in_w (slice_index_or kept k d) (h.combinations k d lt)) new_kept;
    cleared = new_cleared;
    apart = λ w over zeros. new_apart w over zeros;
  }

-- before anything is added, the rest is the image itself
pub first_rest : (sectors : List ℕ) (table : Table) (n : ℕ) (x : Combination) → ((c : ℕ) → c < 512 → get_or x.sector c 0 ≡ byte_of sectors n c) → x.weights ≡ no_weights → IsRest sectors table n x
first_rest sectors table n x e f = record {
  weigh = rw f (weigh_none table n);
  sum = λ c inside. e c inside ∙ sym (ap (bit_xor (byte_of sectors n c)) (combined_of_zeros n (λ j. get_or x.weights j 0) sectors c (λ j lt. ap (λ (xs : List ℕ). get_or xs j 0) f ∙ no_weight j)) ∙ sum_zero (byte_of sectors n c));
}
