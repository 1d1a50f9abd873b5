-- The sectors of independent images are linearly independent.
use Rattle.std.proofs.Common.{ℕ, zero, suc, ◌≡◌, ◌≢◌, ◌<◌, ◌≤◌, ◌+◌, ◌*◌, List, length, get_or, map, cond, nat_lt, bit_xor, sym, ap, subst, ◌∙◌, arith, inl, inr}
use Rattle.std.specs.List.{range_with_len}
use Rattle.std.proofs.lemmas.Bool.{cases_eq, cases_lt, lt-ltb, le-ltb}
use Rattle.std.proofs.lemmas.List.{get_or_past}
use Rattle.std.proofs.lemmas.List.FromFn.{get_or-map-range_with_len, length-map-range_with_len}
use Rattle.gf256.specs.Field.{product}
use Rattle.gf256.proofs.Sums.{sum_zero, equal_from_sum}
use Rattle.gf256.proofs.Products.{associates, product_fits, product_zero, product_zero_left}
use Rattle.gf256.proofs.Powers.{commutes, product_one}
use Rattle.gf256.proofs.Undoing.{has_inverse}
use Rattle.row_relations.specs.declared.standing.Standing.{Standing}
use Rattle.row_relations.specs.declared.standing.Standing.TheVariants.{Independent}
use Rattle.row_relations.specs.Rows.{byte_of, combined, weighed_byte, AreBytes}
use Rattle.row_relations.specs.Tables.{Table, standing_of, IsTable, Stands, WeighBefore}
use Rattle.row_relations.specs.Stages.{Over}
use Rattle.row_relations.proofs.FieldSums.{next_sum}
use Rattle.row_relations.proofs.Combined.{combined_same, combined_scales}

-- weights by a function, as a list of 64
pub listed : (ℕ → ℕ) → List ℕ
listed f = map f (range_with_len 0 64)

pub listed_long : (f : ℕ → ℕ) → length (listed f) ≡ 64
unfolding listed
listed_long f = length-map-range_with_len f 0 64

pub listed_at : (f : ℕ → ℕ) (j : ℕ) → j < 64 → get_or (listed f) j 0 ≡ f j
unfolding listed
listed_at f j h = get_or-map-range_with_len f 0 64 j j 0 h (omega arith)

pub listed_past : (f : ℕ → ℕ) (j : ℕ) → 64 ≤ j → get_or (listed f) j 0 ≡ 0
listed_past f j h = get_or_past (listed f) j 0 (omega (arith, listed_long f))

-- f below m, and 0 from there on
pub cut : (ℕ → ℕ) → ℕ → ℕ → ℕ
cut f m j = cond (nat_lt j m) (f j) 0

pub cut_below : (f : ℕ → ℕ) (m j : ℕ) → j < m → cut f m j ≡ f j
unfolding cut
cut_below f m j h = ap (λ b. cond b (f j) 0) (lt-ltb j m h)

pub cut_past : (f : ℕ → ℕ) (m j : ℕ) → m ≤ j → cut f m j ≡ 0
unfolding cut
cut_past f m j h = ap (λ b. cond b (f j) 0) (le-ltb j m h)

-- what is not 0 in the list of a function that was cut lies below, and is not 0 in the function
cut_listed : (f : ℕ → ℕ) (m j : ℕ) → get_or (listed (cut f m)) j 0 ≢ 0 → (j < m) × (f j ≢ 0)
cut_listed f m j ne = elim (cases_lt j 64) [
  | inr past ↦ absurd (ne (listed_past (cut f m) j past))
  | inl lt ↦ elim (cases_lt j m) [
    | inr past ↦ absurd (ne (listed_at (cut f m) j lt ∙ cut_past f m j past))
    | inl below ↦ (below, λ z. ne (listed_at (cut f m) j lt ∙ cut_below f m j below ∙ z))
  ]
]

listed_fits : (f : ℕ → ℕ) (j : ℕ) → ((i : ℕ) → f i < 256) → get_or (listed f) j 0 < 256
listed_fits f j h = elim (cases_lt j 64) [
  | inl lt ↦ rw (listed_at f j lt) (h j)
  | inr past ↦ rw (listed_past f j past) (omega arith)
]

cut_fits : (f : ℕ → ℕ) (m j : ℕ) → ((i : ℕ) → f i < 256) → cut f m j < 256
cut_fits f m j h = elim (cases_lt j m) [
  | inl lt ↦ rw (cut_below f m j lt) (h j)
  | inr past ↦ rw (cut_past f m j past) (omega arith)
]

-- the list of the weights of the first m images, with what they weigh together
pub weigh_before : (table : Table) (m : ℕ) (f : ℕ → ℕ) → ((j : ℕ) → f j < 256) → ((j : ℕ) → j < m → f j ≢ 0 → standing_of table j ≡ Independent) →
    WeighBefore table m (listed (cut f m))
weigh_before table m f bytes on = record {
  long = listed_long (cut f m);
  bytes = λ j. listed_fits (cut f m) j (λ i. cut_fits f m i bytes);
  before = λ j ne. (cut_listed f m j ne).0;
  independent = λ j ne. on j (cut_listed f m j ne).0 (cut_listed f m j ne).1;
}

pub weighed_listed : (m : ℕ) (f : ℕ → ℕ) (sectors : List ℕ) (c : ℕ) → m ≤ 64 → weighed_byte m (listed (cut f m)) sectors c ≡ combined m f sectors c
weighed_listed m f sectors c le = combined_same m (λ j. get_or (listed (cut f m)) j 0) f sectors c (λ j lt. listed_at (cut f m) j (omega arith) ∙ cut_below f m j lt)

-- x times a times b, where a times x is 1
pub undone : (a b x : ℕ) → a < 256 → b < 256 → x < 256 → product a x ≡ 1 → product x (product a b) ≡ b
undone a b x ha hb hx e =
    sym (associates x a b hx ha) ∙ ap (λ (y : ℕ). product y b) (commutes x a hx ha ∙ e) ∙ commutes 1 b (omega arith) hb ∙ product_one b hb

-- an independent image is no sum of independent ones before it, whatever its own weight but 0
not_tied : (sectors : List ℕ) (table : Table) (m : ℕ) (w : ℕ → ℕ) → m < 64 → AreBytes sectors → Stands sectors table m Independent → Over table (suc m) w →
    ((c : ℕ) → c < 512 → combined (suc m) w sectors c ≡ 0) → w m ≢ 0 → ⊥
not_tied sectors table m w lt bytes stands over zeros ne =
    let i = has_inverse (w m) (over.bytes m) ne in
    let u = λ (j : ℕ). product i.0 (w j) in
    stands.0 (listed (cut u m))
    (weigh_before table m u (λ j. product_fits i.0 (w j) i.1) (λ j below nz. over.independent j (λ z. nz (ap (product i.0) z ∙ product_zero i.0))))
    (λ c inside. sym (weighed_listed m u sectors c (omega arith) ∙ combined_scales m i.0 w sectors c i.1 over.bytes
    ∙ ap (product i.0) (equal_from_sum (combined m w sectors c) (product (w m) (byte_of sectors m c)) (sym (next_sum m (λ j. product (w j) (byte_of sectors j c))) ∙ zeros c inside))
    ∙ undone (w m) (byte_of sectors m c) i.0 (over.bytes m) (bytes (512 * m + c)) i.1 i.2))

pub lower : (table : Table) (m : ℕ) (w : ℕ → ℕ) → Over table (suc m) w → w m ≡ 0 → Over table m w
lower table m w over e = record {
  bytes = over.bytes;
  below = λ j ne. elim (cases_eq j m) [ inl same ↦ absurd (ne (ap w same ∙ e)) | inr other ↦ (let lt : j < suc m = over.below j ne in omega arith) ];
  independent = over.independent;
}

-- only with no weights do independent sectors add up to zeros
pub apart : (images : ℕ) (sectors : List ℕ) (table : Table) → images ≤ 64 → AreBytes sectors → IsTable images sectors table → (m : ℕ) → m ≤ images → (w : ℕ → ℕ) →
    Over table m w → ((c : ℕ) → c < 512 → combined m w sectors c ≡ 0) → (j : ℕ) → w j ≡ 0
apart images sectors table few bytes is zero le w over zeros j = elim (cases_eq (w j) 0) [
  | inl e ↦ e
  | inr ne ↦ absurd (let lt : j < 0 = over.below j ne in omega arith)
]
apart images sectors table few bytes is (suc m) le w over zeros j = elim (cases_eq (w m) 0) [
  | inl e ↦ apart images sectors table few bytes is m (omega arith) w (lower table m w over e)
      (λ c inside. sym (sum_zero (combined m w sectors c)) ∙ ap (bit_xor (combined m w sectors c)) (sym (ap (λ (a : ℕ). product a (byte_of sectors m c)) e ∙ product_zero_left (byte_of sectors m c)))
      ∙ sym (next_sum m (λ i. product (w i) (byte_of sectors i c))) ∙ zeros c inside) j
  | inr ne ↦ absurd (not_tied sectors table m w (omega arith) bytes
      (let P : Standing → Type 0 = λ s. Stands sectors table m s in subst P (over.independent m ne) (is.each m (omega arith))) over zeros ne)
]
