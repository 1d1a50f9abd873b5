-- Triangular systems of conditions.
use Rattle.std.proofs.Common.{ℕ, zero, suc, ◌≡◌, ◌≢◌, ◌<◌, ◌≤◌, ◌+◌, ◌-◌, ◌↔◌, true, false, nat_eq, cond, List, Option, None, Some, get_or, slice_index_or, slice_set, refl, sym, ap, subst, ◌∙◌, arith, inl, inr, bit_xor}
use Rattle.std.proofs.Math.ListN.{length-set}
use Rattle.std.proofs.lemmas.Bool.{cases_eq, cases_lt, eq-eqb, ne_eqb}
use Rattle.std.proofs.lemmas.List.{get_or-set_same, get_or-set_other, get_or_past}
use Rattle.gf256.specs.Field.{product}
use Rattle.gf256.proofs.Sums.{equal_from_sum, sum_associates, sum_commutes, sum_fits, sum_self, sum_zero}
use Rattle.gf256.proofs.Products.{additive_left, additive_right, associates, product_fits, product_zero, product_zero_left}
use Rattle.gf256.proofs.Powers.{commutes, product_one}
use Rattle.gf256.proofs.Undoing.{cancels}
use Rattle.row_relations.specs.Rows.{field_sum, AreBytes}
use Rattle.row_relations.proofs.FieldSums.{both, sum_of_one, sum_of_zeros, sum_same, sum_scales, sum_splits}
use Rattle.relation_prefix.specs.declared.condition.Condition.{Condition}
use Rattle.relation_prefix.specs.Systems.{sum_at, AreValues, Begins, IsSolvable, IsTriangular, Meets, Solves}

pub sum_added : (c d e : List ℕ) (f : ℕ) (x : ℕ → ℕ) → AreBytes c → AreBytes e → f < 256 → ((t : ℕ) → t < 8 → get_or d t 0 ≡ bit_xor (get_or c t 0) (product f (get_or e t 0))) →
    sum_at d x ≡ bit_xor (sum_at c x) (product f (sum_at e x))
unfolding sum_at
sum_added c d e f x hc he hf h =
    let a = λ (t : ℕ). get_or c t 0 in
    let b = λ (t : ℕ). get_or e t 0 in
    sum_same 8 (λ t. product (get_or d t 0) (x t)) (λ t. bit_xor (product (a t) (x t)) (product f (product (b t) (x t))))
    (λ t lt. ap (λ (y : ℕ). product y (x t)) (h t lt) ∙ additive_left (a t) (product f (b t)) (x t) (hc t) (product_fits f (b t) hf) ∙ ap (bit_xor (product (a t) (x t))) (associates f (b t) (x t) hf (he t)))
    ∙ sum_splits 8 (λ t. product (a t) (x t)) (λ t. product f (product (b t) (x t)))
    ∙ ap (bit_xor (field_sum 8 (λ t. product (a t) (x t)))) (sum_scales 8 f (λ t. product (b t) (x t)) hf)

pub sum_scaled : (c d : List ℕ) (f : ℕ) (x : ℕ → ℕ) → AreBytes c → f < 256 → ((t : ℕ) → t < 8 → get_or d t 0 ≡ product f (get_or c t 0)) → sum_at d x ≡ product f (sum_at c x)
unfolding sum_at
sum_scaled c d f x hc hf h =
    sum_same 8 (λ t. product (get_or d t 0) (x t)) (λ t. product f (product (get_or c t 0) (x t)))
    (λ t lt. ap (λ (y : ℕ). product y (x t)) (h t lt) ∙ associates f (get_or c t 0) (x t) hf (hc t))
    ∙ sum_scales 8 f (λ t. product (get_or c t 0) (x t)) hf

pub sum_none : (c : List ℕ) (x : ℕ → ℕ) → ((t : ℕ) → t < 8 → get_or c t 0 ≡ 0) → sum_at c x ≡ 0
unfolding sum_at
sum_none c x h = sum_of_zeros 8 (λ t. product (get_or c t 0) (x t)) (λ t lt. ap (λ (y : ℕ). product y (x t)) (h t lt) ∙ product_zero_left (x t))

pub sum_is_value : (c : List ℕ) (x : ℕ → ℕ) → AreBytes c → sum_at c x < 256
unfolding sum_at
sum_is_value c x h = Rattle.row_relations.proofs.FieldSums.sum_is_byte 8 (λ t. product (get_or c t 0) (x t)) (λ t lt. product_fits (get_or c t 0) (x t) (h t))

-- one unknown moved
moved : (ℕ → ℕ) → ℕ → ℕ → ℕ → ℕ
moved x at by t = bit_xor (x t) (cond (nat_eq t at) by 0)

moved_fits : (x : ℕ → ℕ) (at by : ℕ) → AreValues x → by < 256 → AreValues (moved x at by)
unfolding moved
moved_fits x at by h hb t = sum_fits (x t) (cond (nat_eq t at) by 0) (h t) (elim (nat_eq t at) as (λ b. cond b by 0 < 256) [ true ↦ hb | false ↦ omega arith ])

sum_moved : (c : List ℕ) (x : ℕ → ℕ) (at by : ℕ) → at < 8 → AreBytes c → sum_at c (moved x at by) ≡ bit_xor (sum_at c x) (product (get_or c at 0) by)
unfolding sum_at moved
sum_moved c x at by lt h =
    let a = λ (t : ℕ). get_or c t 0 in
    let y = λ (t : ℕ). cond (nat_eq t at) by 0 in
    sum_same 8 (λ t. product (a t) (bit_xor (x t) (y t))) (λ t. bit_xor (product (a t) (x t)) (product (a t) (y t))) (λ t below. additive_right (a t) (x t) (y t) (h t))
    ∙ sum_splits 8 (λ t. product (a t) (x t)) (λ t. product (a t) (y t))
    ∙ ap (bit_xor (field_sum 8 (λ t. product (a t) (x t))))
    (sum_of_one 8 at (λ t. product (a t) (y t)) lt (λ t ne. ap (λ b. product (a t) (cond b by 0)) (ne_eqb t at ne) ∙ product_zero (a t))
    ∙ ap (λ b. product (a at) (cond b by 0)) (eq-eqb at at refl))

-- the last m conditions are met by these values
abbrev SolvesLast : List (Option Condition) → ℕ → (ℕ → ℕ) → Type 0
SolvesLast conditions m x = (t : ℕ) (condition : Condition) → 8 ≤ t + m → slice_index_or conditions t None ≡ Some condition → Meets x condition

-- those from place `at` on
one_more : (conditions : List (Option Condition)) → IsTriangular conditions → (m at : ℕ) → at + suc m ≡ 8 → (o : Option Condition) → slice_index_or conditions at None ≡ o →
    (x : ℕ → ℕ) → AreValues x → SolvesLast conditions m x → (y : ℕ → ℕ) × AreValues y × SolvesLast conditions (suc m) y
one_more conditions is m at e None here x hx h = (
  x,
  hx,
  λ t condition last there. elim (cases_eq t at) [
    | inl same ↦ absurd (let clash : None ≡ Some condition = sym here ∙ sym (ap (λ (k : ℕ). slice_index_or conditions k None) same) ∙ there in cc)
    | inr other ↦ h t condition (omega arith) there
  ],
)
one_more conditions is m at e (Some own) here x hx h =
    let begins = is.each at own here in
    let by = bit_xor (sum_at own.coefficients x) own.value in
    let fits : by < 256 = sum_fits (sum_at own.coefficients x) own.value (sum_is_value own.coefficients x begins.bytes) begins.value in
    let inside : at < 8 = omega arith in (
      moved x at by,
      moved_fits x at by hx fits,
      λ t condition last there. elim (cases_eq t at) [
        | inl same ↦
            (let is_own : own ≡ condition = (let clash : Some own ≡ Some condition = sym here ∙ sym (ap (λ (k : ℕ). slice_index_or conditions k None) same) ∙ there in cc) in
            subst (λ (c : Condition). Meets (moved x at by) c) is_own
            (sum_moved own.coefficients x at by inside begins.bytes ∙ ap (λ (a : ℕ). bit_xor (sum_at own.coefficients x) (product a by)) begins.one
            ∙ ap (bit_xor (sum_at own.coefficients x)) (commutes 1 by (omega arith) fits ∙ product_one by fits)
            ∙ sym (sum_associates (sum_at own.coefficients x) (sum_at own.coefficients x) own.value) ∙ ap (λ (a : ℕ). bit_xor a own.value) (sum_self (sum_at own.coefficients x))
            ∙ sum_commutes 0 own.value ∙ sum_zero own.value))
        | inr other ↦
            (let late = is.each t condition there in
            sum_moved condition.coefficients x at by inside late.bytes ∙ ap (λ (a : ℕ). bit_xor (sum_at condition.coefficients x) (product a by)) (late.before at (omega arith))
            ∙ ap (bit_xor (sum_at condition.coefficients x)) (product_zero_left by) ∙ sum_zero (sum_at condition.coefficients x) ∙ h t condition (omega arith) there)
      ],
    )

solved : (conditions : List (Option Condition)) → IsTriangular conditions → (m : ℕ) → m ≤ 8 → (x : ℕ → ℕ) × AreValues x × SolvesLast conditions m x
solved conditions is zero le =
    (λ t. 0, λ t. omega arith, λ t condition last there. absurd (let none = get_or_past conditions t None (omega (arith, is.long)) in let clash : None ≡ Some condition = sym none ∙ there in cc))
solved conditions is (suc m) le =
    let rest = solved conditions is m (omega arith) in
    one_more conditions is m (7 - m) (omega arith) (slice_index_or conditions (7 - m) None) refl rest.0 rest.1 rest.2

-- a triangular system has a solution
pub solvable : (conditions : List (Option Condition)) → IsTriangular conditions → IsSolvable conditions
solvable conditions is = let all = solved conditions is 8 (omega arith) in (all.0, all.1, λ t condition there. all.2 t condition (omega arith) there)

-- what is left of a condition, where it differs from it by conditions that are met
pub record IsLeft (conditions : List (Option Condition)) (condition rest : Condition) : Type 0 where
  pub bytes : AreBytes rest.coefficients
  pub value : rest.value < 256
  pub same : (x : ℕ → ℕ) → AreValues x → Solves x conditions → bit_xor (sum_at rest.coefficients x) rest.value ≡ bit_xor (sum_at condition.coefficients x) condition.value

pub left_first : (conditions : List (Option Condition)) (condition : Condition) → AreBytes condition.coefficients → condition.value < 256 → IsLeft conditions condition condition
left_first conditions condition bytes value = record { bytes = bytes; value = value; same = λ x hx h. refl }

-- it stays so where a multiple of a condition is added
pub left_added : (conditions : List (Option Condition)) (condition rest known new : Condition) (at factor : ℕ) → IsTriangular conditions → slice_index_or conditions at None ≡ Some known → factor < 256 →
    IsLeft conditions condition rest → ((t : ℕ) → t < 8 → get_or new.coefficients t 0 ≡ bit_xor (get_or rest.coefficients t 0) (product factor (get_or known.coefficients t 0))) →
    new.value ≡ bit_xor rest.value (product factor known.value) → AreBytes new.coefficients → IsLeft conditions condition new
left_added conditions condition rest known new at factor is there fits left sums value bytes = record {
  bytes = bytes;
  value = subst (λ (v : ℕ). v < 256) (sym value) (sum_fits rest.value (product factor known.value) left.value (product_fits factor known.value fits));
  same = λ x hx h.
      (let k = sum_at known.coefficients x in
      let r = sum_at rest.coefficients x in
      both (sum_at new.coefficients x) new.value (bit_xor r (product factor k)) (bit_xor rest.value (product factor known.value))
      (sum_added rest.coefficients new.coefficients known.coefficients factor x left.bytes (is.each at known there).bytes fits sums) value
      ∙ ap (λ (v : ℕ). bit_xor (bit_xor r (product factor k)) (bit_xor rest.value (product factor v))) (sym (h at known there))
      ∙ Rattle.gf256.proofs.Products.xor_swap r (product factor k) rest.value (product factor k)
      ∙ ap (bit_xor (bit_xor r rest.value)) (sum_self (product factor k)) ∙ sum_zero (bit_xor r rest.value) ∙ left.same x hx h);
}

-- where it is made 1 at its first coefficient that is not 0, and kept
module _ (conditions : List (Option Condition)) (condition rest new : Condition) (at factor : ℕ) (is : IsTriangular conditions) (free : slice_index_or conditions at None ≡ None) (inside : at < 8)
    (left : IsLeft conditions condition rest) (before : (u : ℕ) → u < at → get_or rest.coefficients u 0 ≡ 0) (fits : factor < 256) (inverse : product (get_or rest.coefficients at 0) factor ≡ 1)
    (products : (t : ℕ) → t < 8 → get_or new.coefficients t 0 ≡ product factor (get_or rest.coefficients t 0)) (value : new.value ≡ product factor rest.value) (bytes : AreBytes new.coefficients) where
  at_own : slice_index_or (slice_set conditions at (Some new)) at None ≡ Some new
  at_own = get_or-set_same conditions at (Some new) None (omega (arith, is.long))

  at_other : (t : ℕ) → t ≢ at → slice_index_or (slice_set conditions at (Some new)) t None ≡ slice_index_or conditions t None
  at_other t ne = get_or-set_other conditions at t (Some new) None ne

  new_begins : Begins at new
  new_begins = record {
    one = products at inside ∙ commutes factor (get_or rest.coefficients at 0) fits (left.bytes at) ∙ inverse;
    before = λ u lt. products u (omega arith) ∙ ap (product factor) (before u lt) ∙ product_zero factor;
    bytes = bytes;
    value = subst (λ (v : ℕ). v < 256) (sym value) (product_fits factor rest.value fits);
  }

  own_is : (other : Condition) → slice_index_or (slice_set conditions at (Some new)) at None ≡ Some other → new ≡ other
  own_is other e = let same : Some new ≡ Some other = sym at_own ∙ e in cc

  pub kept_triangular : IsTriangular (slice_set conditions at (Some new))
  kept_triangular = record {
    long = length-set conditions at (Some new) ∙ is.long;
    each = λ t other there. elim (cases_eq t at) [
      | inl same ↦ subst (λ (k : ℕ). Begins k other) (sym same)
          (subst (λ (c : Condition). Begins at c) (own_is other (ap (λ (k : ℕ). slice_index_or (slice_set conditions at (Some new)) k None) (sym same) ∙ there)) new_begins)
      | inr ne ↦ is.each t other (sym (at_other t ne) ∙ there)
    ];
  }

  not_zero : factor ≢ 0
  not_zero z = let clash : ◌≡◌ {A = ℕ} 0 1 = sym (ap (product (get_or rest.coefficients at 0)) z ∙ product_zero (get_or rest.coefficients at 0)) ∙ inverse in omega arith

  solves_old : (x : ℕ → ℕ) → Solves x (slice_set conditions at (Some new)) → Solves x conditions
  solves_old x h t other there = elim (cases_eq t at) [
    | inl same ↦ absurd (let clash : None ≡ Some other = sym free ∙ sym (ap (λ (k : ℕ). slice_index_or conditions k None) same) ∙ there in cc)
    | inr ne ↦ h t other (at_other t ne ∙ there)
  ]

  pub kept_added : (x : ℕ → ℕ) → AreValues x → (Solves x (slice_set conditions at (Some new)) ↔ (Solves x conditions × Meets x condition))
  kept_added x hx = (
    λ h.
        (let old = solves_old x h in
        let scaled = sum_scaled rest.coefficients new.coefficients factor x left.bytes fits products in
        let same = cancels factor (sum_at rest.coefficients x) rest.value fits (sum_is_value rest.coefficients x left.bytes) left.value (sym scaled ∙ h at new at_own ∙ value) not_zero in
        (old, equal_from_sum (sum_at condition.coefficients x) condition.value (sym (left.same x hx old) ∙ ap (λ (r : ℕ). bit_xor r rest.value) same ∙ sum_self rest.value))),
    λ both t other there. elim (cases_eq t at) [
      | inl same ↦ subst (λ (c : Condition). Meets x c) (own_is other (ap (λ (k : ℕ). slice_index_or (slice_set conditions at (Some new)) k None) (sym same) ∙ there))
          (sum_scaled rest.coefficients new.coefficients factor x left.bytes fits products
          ∙ ap (product factor) (equal_from_sum (sum_at rest.coefficients x) rest.value (left.same x hx both.0 ∙ ap (λ (r : ℕ). bit_xor r condition.value) both.1 ∙ sum_self condition.value)) ∙ sym value)
      | inr ne ↦ both.0 t other (sym (at_other t ne) ∙ there)
    ],
  )

-- where nothing is left of a condition but a value
pub left_value : (conditions : List (Option Condition)) (condition rest : Condition) → IsLeft conditions condition rest → ((u : ℕ) → u < 8 → get_or rest.coefficients u 0 ≡ 0) →
    (x : ℕ → ℕ) → AreValues x → Solves x conditions → rest.value ≡ bit_xor (sum_at condition.coefficients x) condition.value
left_value conditions condition rest left zeros x hx h =
    sym (sum_zero rest.value) ∙ sum_commutes rest.value 0 ∙ sym (ap (λ (r : ℕ). bit_xor r rest.value) (sum_none rest.coefficients x zeros)) ∙ left.same x hx h

-- one more coefficient is 0
pub cleared_more : (conditions : List (Option Condition)) (rest known new : Condition) (at : ℕ) → IsTriangular conditions → slice_index_or conditions at None ≡ Some known → at < 8 → AreBytes rest.coefficients →
    ((u : ℕ) → u < at → get_or rest.coefficients u 0 ≡ 0) → ((t : ℕ) → t < 8 → get_or new.coefficients t 0 ≡ bit_xor (get_or rest.coefficients t 0) (product (get_or rest.coefficients at 0) (get_or known.coefficients t 0))) →
    (u : ℕ) → u < at + 1 → get_or new.coefficients u 0 ≡ 0
cleared_more conditions rest known new at is there inside bytes cleared sums u lt =
    let f = get_or rest.coefficients at 0 in
    let begins = is.each at known there in
    elim (cases_lt u at) [
      | inl below ↦
          sums u (omega arith)
          ∙ both (get_or rest.coefficients u 0) (product f (get_or known.coefficients u 0)) 0 0 (cleared u below) (ap (product f) (begins.before u below) ∙ product_zero f)
      | inr past ↦
          (let e : u ≡ at = omega arith in
          ap (λ (k : ℕ). get_or new.coefficients k 0) e ∙ sums at inside ∙ ap (bit_xor f) (ap (product f) begins.one ∙ product_one f (bytes at)) ∙ sum_self f)
    ]
