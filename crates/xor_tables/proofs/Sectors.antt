-- The sums of the images' sectors, and what they say of the images.
use Rattle.std.proofs.Common.{◌≡◌, ℕ, zero, suc, ◌+◌, ◌*◌, ◌/◌, ◌%◌, ◌<◌, ◌≤◌, List, [], ◌∷◌, length, map, replicate, set, cond, arith, ap, ap₂, sym, refl, ◌∙◌, Bool, true, false, not, ◌==◌, ◌&&◌, ◌||◌, nat_eq, if◌then◌else◌, inl, inr, bit_xor}
use Rattle.std.proofs.lemmas.Bool.{cases_eq, eq-eqb, eqb-true, ne_eqb}
use Rattle.std.proofs.lemmas.Nat.{mod_below}
use Rattle.std.specs.Bool.{Decides}
use Rattle.std.specs.Int.Bits.{xor_self, xor_zero_l}
use Rattle.std.specs.List.{count_by, list_any, range_with_len, slice_index, slice_index_or}
use Rattle.gf256.proofs.Sums.{equal_from_sum, sum_associates}
use Rattle.member_regions.specs.ImageSums.{IsImageSum, room_byte, sum_byte, SumImages, xor_all}
use Rattle.member_regions.specs.Regions.{Room}
use Rattle.member_regions.specs.declared.image_sums.ImageSum.{ImageSum}
use Rattle.xor_tables.specs.Rows.{differ, every, others, xor_byte}
use Rattle.xor_tables.specs.Xors.{AreSumsOf, CountRows, HoldRow, HoldRows, IsSumOf, RowTable}
use Rattle.slot_math.proofs.Lists.{each_set}
use Rattle.xor_tables.proofs.Columns.{xor_is, xor_others, xor_total}
use Rattle.slot_math.proofs.Held.{sum_more}
use Rattle.slot_math.proofs.Placed.{total, total_same}

-- whether one of some numbers passes
none_of : (f : ℕ → Bool) (a n : ℕ) → ((x : ℕ) → a ≤ x → x < a + n → f x ≡ false) → list_any f (range_with_len a n) ≡ false
none_of f a zero h = refl
none_of f a (suc n) h = ap₂ (λ (b c : Bool). b || c) (h a (omega arith) (omega arith)) (none_of f (a + 1) n (λ x low high. h x (omega arith) (omega arith)))

or_left : (a b : Bool) → a ≡ true → (a || b) ≡ true
or_left true b e = refl
or_left false b e = (cc)

or_right : (a b : Bool) → b ≡ true → (a || b) ≡ true
or_right true b e = refl
or_right false b e = e

some_of : (f : ℕ → Bool) (a n x : ℕ) → a ≤ x → x < a + n → f x ≡ true → list_any f (range_with_len a n) ≡ true
some_of f a zero x low high e = absurd (omega arith)
some_of f a (suc n) x low high e = elim (cases_eq a x) [
  | inl here ↦ or_left (f a) (list_any f (range_with_len (a + 1) n)) (ap f here ∙ e)
  | inr ne ↦ or_right (f a) (list_any f (range_with_len (a + 1) n)) (some_of f (a + 1) n x (omega arith) (omega arith) e)
]

each_fails : (f : ℕ → Bool) (n x : ℕ) → list_any f (range_with_len 0 n) ≡ false → x < n → f x ≡ false
each_fails f n x none lt = by_case (f x) refl
  where
    by_case : (b : Bool) → f x ≡ b → f x ≡ false
    by_case false e = e
    by_case true e = let bad : true ≡ false = sym (some_of f 0 n x (omega arith) (omega arith) e) ∙ none in (cc)

-- a flag that says of bytes whether they are zeros says whether one is not
tells_other : (flag : Bool) (f : ℕ → ℕ) → Decides flag ((x : ℕ) → x < 512 → f x ≡ 0) → not flag ≡ list_any (λ x. not (nat_eq (f x) 0)) (range_with_len 0 512)
tells_other true f decides = sym (none_of (λ x. not (nat_eq (f x) 0)) 0 512 (λ x low high. ap not (eq-eqb (f x) 0 (decides.0 refl x (omega arith)))))
tells_other false f decides = by_case (list_any (λ x. not (nat_eq (f x) 0)) (range_with_len 0 512)) refl
  where
    not_false : (b : Bool) → not b ≡ false → b ≡ true
    not_false true e = refl
    not_false false e = (cc)

    by_case : (b : Bool) → list_any (λ x. not (nat_eq (f x) 0)) (range_with_len 0 512) ≡ b → true ≡ b
    by_case true e = refl
    by_case false e = sym (decides.1 (λ x below. eqb-true (f x) 0 (not_false (nat_eq (f x) 0) (each_fails (λ x. not (nat_eq (f x) 0)) 512 x e below))))

-- the exclusive or without one image
taken_out : (f : ℕ → ℕ) (i a n : ℕ) → a ≤ i → i < a + n → total bit_xor f (range_with_len a n) ≡ bit_xor (f i) (total bit_xor (λ k. cond (k == i) 0 (f k)) (range_with_len a n))
unfolding total
taken_out f i a zero low high = absurd (omega arith)
taken_out f i a (suc n) low high = elim (cases_eq a i) [
  | inl e ↦
      let rest : total bit_xor f (range_with_len (a + 1) n) ≡ total bit_xor (λ k. cond (k == i) 0 (f k)) (range_with_len (a + 1) n)
      = total_same bit_xor f (λ k. cond (k == i) 0 (f k)) (a + 1) n (λ k above below. sym (ap (λ (b : Bool). cond b 0 (f k)) (ne_eqb k i (λ same. let x : k ≡ i = same in omega arith)))) in
      ap₂ bit_xor (ap f e) (rest ∙ sym (ap (λ (b : Bool). bit_xor (cond b 0 (f a)) (total bit_xor (λ k. cond (k == i) 0 (f k)) (range_with_len (a + 1) n))) (eq-eqb a i e)
      ∙ xor_zero_l (total bit_xor (λ k. cond (k == i) 0 (f k)) (range_with_len (a + 1) n))))
  | inr ne ↦
      ap (bit_xor (f a)) (taken_out f i (a + 1) n (omega arith) (omega arith))
      ∙ xor_is.swap (f a) (f i) (total bit_xor (λ k. cond (k == i) 0 (f k)) (range_with_len (a + 1) n))
      ∙ sym (ap (λ (b : Bool). bit_xor (f i) (bit_xor (cond b 0 (f a)) (total bit_xor (λ k. cond (k == i) 0 (f k)) (range_with_len (a + 1) n)))) (ne_eqb a i ne))
]

twice : (a b : ℕ) → bit_xor a (bit_xor a b) ≡ b
twice a b = sym (sum_associates a a b) ∙ ap (λ (x : ℕ). bit_xor x b) (xor_self a) ∙ xor_zero_l b

xor_but : (f : ℕ → ℕ) (n i : ℕ) → i < n → bit_xor (f i) (xor_all (map f (every n))) ≡ xor_all (map f (others n i))
xor_but f n i lt =
    ap (bit_xor (f i)) (xor_total f (every n) ∙ taken_out f i 0 n (omega arith) (omega arith))
    ∙ twice (f i) (total bit_xor (λ k. cond (k == i) 0 (f k)) (every n))
    ∙ sym (xor_others f i (every n))

-- a byte of an image
abbrev image_byte : List (List ℕ) → ℕ → ℕ → ℕ
image_byte images at i = slice_index (slice_index_or images i []) at

map_alike : (f g : ℕ → ℕ) (a n : ℕ) → ((i : ℕ) → a ≤ i → i < a + n → f i ≡ g i) → map f (range_with_len a n) ≡ map g (range_with_len a n)
map_alike f g a zero same = refl
map_alike f g a (suc n) same = ap₂ (λ (x : ℕ) (l : List ℕ). x ∷ l) (same a (omega arith) (omega arith)) (map_alike f g (a + 1) n (λ i low high. same i (omega arith) (omega arith)))

-- the sum in memory is that of the images
sum_held : (images : List (List ℕ)) (n sector j x : ℕ) (room : Room) → HoldRow images n sector j room → x < 512 → sum_byte room n j x ≡ xor_byte images (every n) (512 * sector + x)
sum_held images n sector j x room hold below =
    ap xor_all (map_alike (room_byte room (512 * j + x)) (image_byte images (512 * sector + x)) 0 n (λ i low high. hold i x (omega arith) below))

-- it is the sector of an image just where the sum of the others is zero
others_zero : (images : List (List ℕ)) (n sector i j : ℕ) (room : Room) (flag : Bool) → i < n → HoldRow images n sector j room →
    Decides flag ((x : ℕ) → x < 512 → sum_byte room n j x ≡ room_byte room (512 * j + x) i) → Decides flag ((x : ℕ) → x < 512 → xor_byte images (others n i) (512 * sector + x) ≡ 0)
others_zero images n sector i j room flag lt hold decides = (
  λ holds x below.
      sym (xor_but (image_byte images (512 * sector + x)) n i lt)
      ∙ ap (bit_xor (image_byte images (512 * sector + x) i)) (sym (sum_held images n sector j x room hold below) ∙ decides.0 holds x below ∙ hold i x lt below)
      ∙ xor_self (image_byte images (512 * sector + x) i),
  λ zeros. decides.1 (λ x below.
      sum_held images n sector j x room hold below
      ∙ sym (equal_from_sum (image_byte images (512 * sector + x) i) (xor_byte images (every n) (512 * sector + x)) (xor_but (image_byte images (512 * sector + x)) n i lt ∙ zeros x below))
      ∙ sym (hold i x lt below)),
)

-- what the sum of a row says of the images
sum_of_row : (images : List (List ℕ)) (n sector j : ℕ) (room : Room) (sum : ImageSum) → HoldRow images n sector j room → IsImageSum room n j sum → IsSumOf images n sector sum
unfolding differ
sum_of_row images n sector j room sum hold is = record {
  all = tells_other sum.is_zero (λ x. xor_byte images (every n) (512 * sector + x)) (
    λ holds x below. sym (sum_held images n sector j x room hold below) ∙ is.zero.0 holds x below,
    λ zeros. is.zero.1 (λ x below. sum_held images n sector j x room hold below ∙ zeros x below),
  );
  beside = λ i lt. tells_other (slice_index_or sum.is_image i false) (λ x. xor_byte images (others n i) (512 * sector + x))
      (others_zero images n sector i j room (slice_index_or sum.is_image i false) lt hold (is.image i lt));
}

-- and what those of some rows do
pub sums_of_rows : (images : List (List ℕ)) (n sector rows : ℕ) (room : Room) (sums : List ImageSum) → HoldRows images n sector rows room → SumImages room n rows sums → AreSumsOf images n sector rows sums
sums_of_rows images n sector rows room sums hold are = λ j none lt. sum_of_row images n (sector + j) j room (slice_index_or sums j none) (hold j lt) (are j none lt)

-- a row more
pub count_more : (images : List (List ℕ)) (count span offset t : ℕ) (old : RowTable) (sum : ImageSum) (row : List ℕ) (more : ℕ) → 0 < count → count ≤ length old.beside →
    IsSumOf images count (offset + t) sum → more ≡ (if not sum.is_zero then 1 else 0) →
    ((i : ℕ) → i < count → slice_index row i ≡ slice_index (slice_index_or old.beside (t / span % count) []) i + (if not (slice_index_or sum.is_image i false) then 1 else 0)) →
    CountRows images count span offset t old → CountRows images count span offset (t + 1) (record { all = old.all + more; beside = set old.beside (t / span % count) row })
count_more images count span offset t old sum row more some wide says is counts before =
    let turn : t / span % count < count = mod_below (t / span) count some in
    record {
      all = ap₂ (λ (a b : ℕ). a + b) before.all (is ∙ ap (λ (b : Bool). cond b 1 0) says.all)
          ∙ sym (sum_more (λ s. cond (differ images (every count) (offset + s)) 1 0) t);
      beside = λ k i low below.
          each_set {X = List ℕ} (λ k row. (i : ℕ) → i < count → slice_index row i ≡ count_by (λ s. (s / span % count == k) && differ images (others count i) (offset + s)) (range_with_len 0 (t + 1)))
          old.beside count (t / span % count) row [] (omega arith)
          (λ i below.
          counts i below
          ∙ ap₂ (λ (a b : ℕ). a + b) (before.beside (t / span % count) i turn below)
          (ap (λ (b : Bool). cond b 1 0) (says.beside i below)
          ∙ sym (ap (λ (b : Bool). cond (b && differ images (others count i) (offset + t)) 1 0) (eq-eqb (t / span % count) (t / span % count) refl)))
          ∙ sym (sum_more (λ s. cond ((s / span % count == t / span % count) && differ images (others count i) (offset + s)) 1 0) t))
          (λ k low ne i below.
          before.beside k i low below
          ∙ (let z : count_by (λ s. (s / span % count == k) && differ images (others count i) (offset + s)) (range_with_len 0 t)
          ≡ count_by (λ s. (s / span % count == k) && differ images (others count i) (offset + s)) (range_with_len 0 t) + 0 = omega arith in z)
          ∙ ap (λ (b : Bool). count_by (λ s. (s / span % count == k) && differ images (others count i) (offset + s)) (range_with_len 0 t) + cond (b && differ images (others count i) (offset + t)) 1 0)
          (sym (ne_eqb (t / span % count) k (λ e. ne (sym e))))
          ∙ sym (sum_more (λ s. cond ((s / span % count == k) && differ images (others count i) (offset + s)) 1 0) t))
          k low i below;
    }

-- a table of zeros
pub no_counts : (n m k i : ℕ) → slice_index (slice_index_or (replicate n (replicate m 0)) k []) i ≡ 0
no_counts zero m k i = refl
no_counts (suc n) m zero i = zeros m i
  where
    zeros : (m i : ℕ) → slice_index (replicate m 0) i ≡ 0
    zeros zero i = refl
    zeros (suc m) zero = refl
    zeros (suc m) (suc i) = zeros m i
no_counts (suc n) m (suc k) i = no_counts n m k i
