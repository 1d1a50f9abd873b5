-- The dependent images of a table, one after the other.
use Rattle.std.proofs.Common.{ℕ, zero, suc, ◌≡◌, ◌<◌, ◌≤◌, ◌+◌, true, false, cond, List, [], ◌∷◌, ◌++◌, length, get_or, refl, sym, ap, subst, ◌∙◌, arith, inl, inr, bit_xor}
use Rattle.std.specs.List.{All}
use Rattle.std.proofs.Math.ListN.{get_or-append}
use Rattle.std.proofs.Math.Seq.{get_or-append_seam}
use Rattle.std.proofs.lemmas.Bool.{cases_lt, cases_Bool}
use Rattle.std.proofs.lemmas.List.{length-append, append-nil, get_or_default}
use Rattle.gf256.proofs.Sums.{sum_zero}
use Rattle.row_relations.specs.Rows.{field_sum}
use Rattle.row_relations.specs.Tables.{Table, standing_of}
use Rattle.row_relations.proofs.FieldSums.{both, next_sum, no_sum, sum_same}
use Rattle.relation_prefix.specs.Ties.{dependents, is_dependent}

-- one image more
pub next_on : (table : Table) (n : ℕ) → is_dependent (standing_of table n) ≡ true → dependents table (suc n) ≡ dependents table n ++ n ∷ []
unfolding dependents
next_on table n e = ap (λ b. dependents table n ++ cond b (n ∷ []) []) e

pub next_off : (table : Table) (n : ℕ) → is_dependent (standing_of table n) ≡ false → dependents table (suc n) ≡ dependents table n
unfolding dependents
next_off table n e = ap (λ b. dependents table n ++ cond b (n ∷ []) []) e ∙ append-nil (dependents table n)

pub none_yet : (table : Table) → dependents table 0 ≡ []
unfolding dependents
none_yet table = refl

length_on : (table : Table) (n : ℕ) → is_dependent (standing_of table n) ≡ true → length (dependents table (suc n)) ≡ suc (length (dependents table n))
length_on table n e = ap (λ (l : List ℕ). length l) (next_on table n e) ∙ length-append (dependents table n) (n ∷ []) ∙ (omega arith)

length_off : (table : Table) (n : ℕ) → is_dependent (standing_of table n) ≡ false → length (dependents table (suc n)) ≡ length (dependents table n)
length_off table n e = ap (λ (l : List ℕ). length l) (next_off table n e)

-- there come more
pub dependents_grow : (table : Table) (a b : ℕ) → a ≤ b → length (dependents table a) ≤ length (dependents table b)
dependents_grow table a zero le = let e : a ≡ 0 = omega arith in let same = ap (λ (n : ℕ). length (dependents table n)) e in omega arith
dependents_grow table a (suc b) le = elim (cases_lt b a) [
  | inl last ↦ (let e : a ≡ suc b = omega arith in let same = ap (λ (n : ℕ). length (dependents table n)) e in omega arith)
  | inr before ↦
      (let rest = dependents_grow table a b before in
      elim (cases_Bool (is_dependent (standing_of table b))) [
        | inl on ↦ (let more = length_on table b on in omega arith)
        | inr off ↦ (let same = length_off table b off in omega arith)
      ])
]

-- a sum over the dependent images is one over all, where others add nothing
pub sum_by_dependents : (table : Table) (n : ℕ) (f : ℕ → ℕ) → ((d : ℕ) → d < n → is_dependent (standing_of table d) ≡ false → f d ≡ 0) →
    field_sum n f ≡ field_sum (length (dependents table n)) (λ t. f (get_or (dependents table n) t 0))
sum_by_dependents table zero f h =
    no_sum f ∙ sym (ap (λ (l : List ℕ). field_sum (length l) (λ t. f (get_or l t 0))) (none_yet table) ∙ no_sum (λ t. f (get_or {A = ℕ} [] t 0)))
sum_by_dependents table (suc n) f h =
    let ds = dependents table n in
    let rest = sum_by_dependents table n f (λ d lt off. h d (omega arith) off) in
    next_sum n f ∙ elim (cases_Bool (is_dependent (standing_of table n))) [
      | inl on ↦
          (let long : length (ds ++ n ∷ []) ≡ suc (length ds) = length-append ds (n ∷ []) ∙ (omega arith) in
          both (field_sum n f) (f n) (field_sum (length ds) (λ t. f (get_or (ds ++ n ∷ []) t 0))) (f (get_or (ds ++ n ∷ []) (length ds) 0))
          (rest ∙ sum_same (length ds) (λ t. f (get_or ds t 0)) (λ t. f (get_or (ds ++ n ∷ []) t 0)) (λ t lt. ap f (sym (get_or-append ds (n ∷ []) 0 t lt))))
          (ap f (sym (get_or-append_seam ds n [] 0)))
          ∙ sym (next_sum (length ds) (λ t. f (get_or (ds ++ n ∷ []) t 0)))
          ∙ ap (λ (k : ℕ). field_sum k (λ t. f (get_or (ds ++ n ∷ []) t 0))) (sym long)
          ∙ ap (λ (l : List ℕ). field_sum (length l) (λ t. f (get_or l t 0))) (sym (next_on table n on)))
      | inr off ↦
          ap (bit_xor (field_sum n f)) (h n (omega arith) off) ∙ sum_zero (field_sum n f) ∙ rest
          ∙ ap (λ (l : List ℕ). field_sum (length l) (λ t. f (get_or l t 0))) (sym (next_off table n off))
    ]

-- each in the list is a dependent image among the first
pub each_dependent : (table : Table) (n t : ℕ) → t < length (dependents table n) → (get_or (dependents table n) t 0 < n) × (is_dependent (standing_of table (get_or (dependents table n) t 0)) ≡ true)
each_dependent table zero t lt = absurd (let none = ap (λ (l : List ℕ). length l) (none_yet table) in omega arith)
each_dependent table (suc n) t lt = elim (cases_Bool (is_dependent (standing_of table n))) [
  | inl on ↦
      (let ds = dependents table n in
      let P : List ℕ → Type 0 = λ l. (get_or l t 0 < suc n) × (is_dependent (standing_of table (get_or l t 0)) ≡ true) in
      let long = length_on table n on in
      subst P (sym (next_on table n on)) (elim (cases_lt t (length ds)) [
        | inl first ↦
            (let was = each_dependent table n t first in
            let same = get_or-append ds (n ∷ []) 0 t first in
            ((let low = was.0 in omega arith), ap (λ (d : ℕ). is_dependent (standing_of table d)) same ∙ was.1))
        | inr last ↦
            (let e : t ≡ length ds = omega arith in
            let same : get_or (ds ++ n ∷ []) t 0 ≡ n = ap (λ (k : ℕ). get_or (ds ++ n ∷ []) k 0) e ∙ get_or-append_seam ds n [] 0 in
            ((omega arith), ap (λ (d : ℕ). is_dependent (standing_of table d)) same ∙ on))
      ]))
  | inr off ↦
      (let P : List ℕ → Type 0 = λ l. (get_or l t 0 < suc n) × (is_dependent (standing_of table (get_or l t 0)) ≡ true) in
      let long = length_off table n off in
      let was = each_dependent table n t (omega arith) in
      subst P (sym (next_off table n off)) ((let low = was.0 in omega arith), was.1))
]

-- they stand in order
pub in_order : (table : Table) (n s t : ℕ) → s < t → t < length (dependents table n) → get_or (dependents table n) s 0 < get_or (dependents table n) t 0
in_order table zero s t less lt = absurd (let none = ap (λ (l : List ℕ). length l) (none_yet table) in omega arith)
in_order table (suc n) s t less lt = elim (cases_Bool (is_dependent (standing_of table n))) [
  | inl on ↦
      (let ds = dependents table n in
      let long = length_on table n on in
      let same_s = get_or-append ds (n ∷ []) 0 s (omega arith) in
      subst (λ (l : List ℕ). get_or l s 0 < get_or l t 0) (sym (next_on table n on)) (elim (cases_lt t (length ds)) [
        | inl first ↦ (let same_t = get_or-append ds (n ∷ []) 0 t first in let was = in_order table n s t less first in omega arith)
        | inr last ↦
            (let e : t ≡ length ds = omega arith in
            let same : get_or (ds ++ n ∷ []) t 0 ≡ n = ap (λ (k : ℕ). get_or (ds ++ n ∷ []) k 0) e ∙ get_or-append_seam ds n [] 0 in
            let low = (each_dependent table n s (omega arith)).0 in omega arith)
      ]))
  | inr off ↦
      (let long = length_off table n off in
      subst (λ (l : List ℕ). get_or l s 0 < get_or l t 0) (sym (next_off table n off)) (in_order table n s t less (omega arith)))
]

-- with a full list, one more is too many
pub too_many : (table : Table) (i n : ℕ) (items : List ℕ) → items ≡ dependents table i → length items ≡ 8 → is_dependent (standing_of table i) ≡ true → i < n → 8 < length (dependents table n)
too_many table i n items e full on lt =
    let was : length (dependents table i) ≡ 8 = sym (ap (λ (l : List ℕ). length l) e) ∙ full in
    let long = length_on table i on in
    let more = dependents_grow table (suc i) n (omega arith) in
    omega arith

pub one_on : (table : Table) (i : ℕ) (items : List ℕ) → items ≡ dependents table i → is_dependent (standing_of table i) ≡ true → items ++ i ∷ [] ≡ dependents table (i + 1)
one_on table i items e on = let next : suc i ≡ i + 1 = omega arith in ap (λ (l : List ℕ). l ++ i ∷ []) e ∙ sym (next_on table i on) ∙ ap (dependents table) next

pub one_off : (table : Table) (i : ℕ) (items : List ℕ) → items ≡ dependents table i → is_dependent (standing_of table i) ≡ false → items ≡ dependents table (i + 1)
one_off table i items e off = let next : suc i ≡ i + 1 = omega arith in e ∙ sym (next_off table i off) ∙ ap (dependents table) next

pub all_below : (table : Table) (n : ℕ) (items : List ℕ) → items ≡ dependents table n → All (λ d. d < n) items
all_below table n items e k d lt =
    let long : length items ≡ length (dependents table n) = ap (λ (l : List ℕ). length l) e in
    let here = each_dependent table n k (omega arith) in
    subst (λ (x : ℕ). x < n) (sym (get_or_default items k d 0 lt ∙ ap (λ (l : List ℕ). get_or l k 0) e)) here.0
