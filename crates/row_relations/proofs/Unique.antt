-- A row has one table.
use Rattle.std.proofs.Common.{ℕ, zero, suc, ◌≡◌, ◌≢◌, ◌<◌, ◌≤◌, ◌⊎◌, List, [], length, get_or, replicate, bit_xor, refl, sym, ap, subst, ◌∙◌, arith, inl, inr}
use Rattle.std.proofs.lemmas.Bool.{cases_eq, cases_lt}
use Rattle.std.proofs.lemmas.List.{ext_get_or, get_or-replicate, get_or_past, length-replicate}
use Rattle.gf256.specs.Field.{product}
use Rattle.gf256.proofs.Sums.{sum_fits, sum_self, equal_from_sum}
use Rattle.gf256.proofs.Products.{product_fits, product_zero}
use Rattle.row_relations.specs.declared.standing.Standing.{Standing}
use Rattle.row_relations.specs.declared.standing.Standing.TheVariants.{Zero, Independent, Dependent}
use Rattle.row_relations.specs.Rows.{combined, AreBytes, IsZeros}
use Rattle.row_relations.specs.Tables.{Table, no_weights, standing_of, weights_of, IsSum, IsTable, Stands, WeighBefore}
use Rattle.row_relations.specs.Laws.{RowsHaveOneTable}
use Rattle.row_relations.specs.Stages.{Over}
use Rattle.row_relations.proofs.FieldSums.{both}
use Rattle.row_relations.proofs.Combined.{combined_adds, combined_of_zeros}
use Rattle.row_relations.proofs.Independence.{apart}

pub no_weight : (j : ℕ) → get_or no_weights j 0 ≡ 0
unfolding no_weights
no_weight j = elim (cases_lt j 64) [
  | inl lt ↦ get_or-replicate 64 j 0 0 lt
  | inr past ↦ get_or_past (replicate 64 0) j 0 past
]

pub no_weights_long : length no_weights ≡ 64
unfolding no_weights
no_weights_long = length-replicate {A = ℕ} 64 0

pub weigh_none : (table : Table) (i : ℕ) → WeighBefore table i no_weights
weigh_none table i = record {
  long = no_weights_long;
  bytes = λ j. rw (no_weight j) (omega arith);
  before = λ j ne. absurd (ne (no_weight j));
  independent = λ j ne. absurd (ne (no_weight j));
}

pub zeros_are_sum : (sectors : List ℕ) (i : ℕ) → IsZeros sectors i → IsSum sectors i no_weights
zeros_are_sum sectors i h c lt = h c lt ∙ sym (combined_of_zeros i (λ j. get_or no_weights j 0) sectors c (λ j below. no_weight j))

pub over_of : (table : Table) (i : ℕ) (weights : List ℕ) → WeighBefore table i weights → Over table i (λ j. get_or weights j 0)
over_of table i weights h = record { bytes = h.bytes; below = h.before; independent = h.independent }

pub either : (a b : ℕ) → bit_xor a b ≢ 0 → (a ≢ 0) ⊎ (b ≢ 0)
either a b ne = elim (cases_eq a 0) [
  | inr na ↦ inl na
  | inl za ↦ inr (λ zb. ne (both a b 0 0 za zb))
]

pub over_sum : (table : Table) (n : ℕ) (v w : ℕ → ℕ) → Over table n v → Over table n w → Over table n (λ j. bit_xor (v j) (w j))
over_sum table n v w hv hw = record {
  bytes = λ j. sum_fits (v j) (w j) (hv.bytes j) (hw.bytes j);
  below = λ j ne. elim (either (v j) (w j) ne) [ inl l ↦ hv.below j l | inr r ↦ hw.below j r ];
  independent = λ j ne. elim (either (v j) (w j) ne) [ inl l ↦ hv.independent j l | inr r ↦ hw.independent j r ];
}

pub over_scaled : (table : Table) (n a : ℕ) (w : ℕ → ℕ) → a < 256 → Over table n w → Over table n (λ j. product a (w j))
over_scaled table n a w ha h = record {
  bytes = λ j. product_fits a (w j) ha;
  below = λ j ne. h.below j (λ z. ne (ap (product a) z ∙ product_zero a));
  independent = λ j ne. h.independent j (λ z. ne (ap (product a) z ∙ product_zero a));
}

pub weigh_alike : (table other : Table) (i j : ℕ) (weights : List ℕ) → ((k : ℕ) → k < i → standing_of table k ≡ standing_of other k) → j ≤ i →
    WeighBefore table j weights → WeighBefore other j weights
weigh_alike table other i j weights agree le h = record {
  long = h.long;
  bytes = h.bytes;
  before = h.before;
  independent = λ k ne. sym (agree k (let lt : k < j = h.before k ne in omega arith)) ∙ h.independent k ne;
}

-- the weights by which an image is a sum are the only ones
pub one_sum : (images : ℕ) (sectors : List ℕ) (table : Table) → images ≤ 64 → AreBytes sectors → IsTable images sectors table → (i : ℕ) → i ≤ images → (v w : List ℕ) →
    WeighBefore table i v → WeighBefore table i w → IsSum sectors i v → IsSum sectors i w → v ≡ w
one_sum images sectors table few bytes is i le v w hv hw sv sw =
    let f = λ (j : ℕ). get_or v j 0 in
    let g = λ (j : ℕ). get_or w j 0 in
    ext_get_or 0 v w (hv.long ∙ sym hw.long) (λ j lt. equal_from_sum (f j) (g j)
    (apart images sectors table few bytes is i le (λ j. bit_xor (f j) (g j)) (over_sum table i f g (over_of table i v hv) (over_of table i w hw))
    (λ c inside. combined_adds i f g sectors c hv.bytes hw.bytes ∙ ap (bit_xor (combined i f sectors c)) (sym (sw c inside) ∙ sv c inside) ∙ sum_self (combined i f sectors c)) j))

-- an image stands in one way
stands_alike : (images : ℕ) (sectors : List ℕ) (table other : Table) → images ≤ 64 → AreBytes sectors → IsTable images sectors table → IsTable images sectors other →
    (i : ℕ) → i < images → ((k : ℕ) → k < i → standing_of table k ≡ standing_of other k) → (s t : Standing) → Stands sectors table i s → Stands sectors other i t →
    (s ≡ t) × (weights_of table i ≡ weights_of other i)
stands_alike images sectors table other few bytes is io i lt agree Zero Zero a b = (refl, a.1 ∙ sym b.1)
stands_alike images sectors table other few bytes is io i lt agree Zero Independent a b = absurd (b.0 no_weights (weigh_none other i) (zeros_are_sum sectors i a.0))
stands_alike images sectors table other few bytes is io i lt agree Zero Dependent a b = absurd (b.0 a.0)
stands_alike images sectors table other few bytes is io i lt agree Independent Zero a b = absurd (a.0 no_weights (weigh_none table i) (zeros_are_sum sectors i b.0))
stands_alike images sectors table other few bytes is io i lt agree Independent Independent a b = (refl, a.1 ∙ sym b.1)
stands_alike images sectors table other few bytes is io i lt agree Independent Dependent a b =
    absurd (a.0 (weights_of other i) (weigh_alike other table i i (weights_of other i) (λ k below. sym (agree k below)) (omega arith) b.1) b.2)
stands_alike images sectors table other few bytes is io i lt agree Dependent Zero a b = absurd (a.0 b.0)
stands_alike images sectors table other few bytes is io i lt agree Dependent Independent a b =
    absurd (b.0 (weights_of table i) (weigh_alike table other i i (weights_of table i) agree (omega arith) a.1) a.2)
stands_alike images sectors table other few bytes is io i lt agree Dependent Dependent a b = (
  refl,
  one_sum images sectors table few bytes is i (omega arith) (weights_of table i) (weights_of other i) a.1
      (weigh_alike other table i i (weights_of other i) (λ k below. sym (agree k below)) (omega arith) b.1) a.2 b.2,
)

alike_below : (images : ℕ) (sectors : List ℕ) (table other : Table) → images ≤ 64 → AreBytes sectors → IsTable images sectors table → IsTable images sectors other →
    (i : ℕ) → i ≤ images → (j : ℕ) → j < i → (standing_of table j ≡ standing_of other j) × (weights_of table j ≡ weights_of other j)
alike_below images sectors table other few bytes is io zero le j lt = absurd (omega arith)
alike_below images sectors table other few bytes is io (suc i) le j lt = elim (cases_lt j i) [
  | inl below ↦ alike_below images sectors table other few bytes is io i (omega arith) j below
  | inr past ↦
      (let e : i ≡ j = omega arith in
      let P : ℕ → Type 0 = λ k. (standing_of table k ≡ standing_of other k) × (weights_of table k ≡ weights_of other k) in
      subst P e (stands_alike images sectors table other few bytes is io i (omega arith) (λ k below. (alike_below images sectors table other few bytes is io i (omega arith) k below).0)
      (standing_of table i) (standing_of other i) (is.each i (omega arith)) (io.each i (omega arith))))
]

pub one_table : RowsHaveOneTable
one_table images sectors table other few bytes is io =
    let make : List Standing → List (List ℕ) → Table = λ s w. record { standings = s; weights = w } in
    let alike = alike_below images sectors table other few bytes is io images (omega arith) in
    ap (λ (s : List Standing). make s table.weights) (ext_get_or Zero table.standings other.standings (is.standings ∙ sym io.standings) (λ j lt. (alike j (let e = is.standings in omega arith)).0))
    ∙ ap (make other.standings) (ext_get_or [] table.weights other.weights (is.weights ∙ sym io.weights) (λ j lt. (alike j (let e = is.weights in omega arith)).1))
