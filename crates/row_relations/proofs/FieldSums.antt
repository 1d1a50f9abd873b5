-- Sums over the first numbers, in the field.
use Rattle.std.proofs.Common.{ℕ, zero, suc, ◌≡◌, ◌≢◌, ◌<◌, ◌≤◌, bit_xor, refl, sym, ap, ◌∙◌, arith, inl, inr}
use Rattle.std.proofs.lemmas.Bool.{cases_eq, cases_lt}
use Rattle.gf256.specs.Field.{product}
use Rattle.gf256.proofs.Sums.{sum_fits, sum_zero, sum_commutes}
use Rattle.gf256.proofs.Products.{xor_swap, additive_right, product_zero}
use Rattle.row_relations.specs.Rows.{field_sum}

pub both : (a b c d : ℕ) → a ≡ c → b ≡ d → bit_xor a b ≡ bit_xor c d
both a b c d e f = ap (λ (x : ℕ). bit_xor x b) e ∙ ap (bit_xor c) f

pub next_sum : (n : ℕ) (f : ℕ → ℕ) → field_sum (suc n) f ≡ bit_xor (field_sum n f) (f n)
unfolding field_sum
next_sum n f = refl

pub no_sum : (f : ℕ → ℕ) → field_sum 0 f ≡ 0
unfolding field_sum
no_sum f = refl

pub sum_same : (n : ℕ) (f g : ℕ → ℕ) → ((i : ℕ) → i < n → f i ≡ g i) → field_sum n f ≡ field_sum n g
unfolding field_sum
sum_same zero f g h = refl
sum_same (suc n) f g h = both (field_sum n f) (f n) (field_sum n g) (g n) (sum_same n f g (λ i lt. h i (omega arith))) (h n (omega arith))

pub sum_of_zeros : (n : ℕ) (f : ℕ → ℕ) → ((i : ℕ) → i < n → f i ≡ 0) → field_sum n f ≡ 0
unfolding field_sum
sum_of_zeros zero f h = refl
sum_of_zeros (suc n) f h = both (field_sum n f) (f n) 0 0 (sum_of_zeros n f (λ i lt. h i (omega arith))) (h n (omega arith))

pub sum_is_byte : (n : ℕ) (f : ℕ → ℕ) → ((i : ℕ) → i < n → f i < 256) → field_sum n f < 256
unfolding field_sum
sum_is_byte zero f h = omega arith
sum_is_byte (suc n) f h = sum_fits (field_sum n f) (f n) (sum_is_byte n f (λ i lt. h i (omega arith))) (h n (omega arith))

pub sum_splits : (n : ℕ) (f g : ℕ → ℕ) → field_sum n (λ i. bit_xor (f i) (g i)) ≡ bit_xor (field_sum n f) (field_sum n g)
unfolding field_sum
sum_splits zero f g = refl
sum_splits (suc n) f g =
    ap (λ (x : ℕ). bit_xor x (bit_xor (f n) (g n))) (sum_splits n f g) ∙ xor_swap (field_sum n f) (field_sum n g) (f n) (g n)

pub sum_scales : (n a : ℕ) (f : ℕ → ℕ) → a < 256 → field_sum n (λ i. product a (f i)) ≡ product a (field_sum n f)
unfolding field_sum
sum_scales zero a f h = sym (product_zero a)
sum_scales (suc n) a f h =
    ap (λ (x : ℕ). bit_xor x (product a (f n))) (sum_scales n a f h) ∙ sym (additive_right a (field_sum n f) (f n) h)

-- the other order of a sum of sums
pub sum_turns : (n m : ℕ) (f : ℕ → ℕ → ℕ) → field_sum n (λ i. field_sum m (f i)) ≡ field_sum m (λ j. field_sum n (λ i. f i j))
unfolding field_sum
sum_turns zero m f = sym (sum_of_zeros m (λ j. 0) (λ j lt. refl))
sum_turns (suc n) m f =
    ap (λ (x : ℕ). bit_xor x (field_sum m (f n))) (sum_turns n m f) ∙ sym (sum_splits m (λ j. field_sum n (λ i. f i j)) (f n))

-- what comes after n is 0
pub sum_ends : (n m : ℕ) (f : ℕ → ℕ) → n ≤ m → ((i : ℕ) → n ≤ i → f i ≡ 0) → field_sum m f ≡ field_sum n f
unfolding field_sum
sum_ends n zero f le h = ap (λ (k : ℕ). field_sum k f) (let e : 0 ≡ n = omega arith in e)
sum_ends n (suc m) f le h = elim (cases_lt m n) [
  | inl lt ↦ ap (λ (k : ℕ). field_sum k f) (let e : suc m ≡ n = omega arith in e)
  | inr ge ↦ both (field_sum m f) (f m) (field_sum n f) 0 (sum_ends n m f ge h) (h m ge) ∙ sum_zero (field_sum n f)
]

-- one number alone counts
pub sum_of_one : (n i : ℕ) (f : ℕ → ℕ) → i < n → ((j : ℕ) → j ≢ i → f j ≡ 0) → field_sum n f ≡ f i
unfolding field_sum
sum_of_one zero i f lt h = absurd (omega arith)
sum_of_one (suc n) i f lt h = elim (cases_eq i n) [
  | inl e ↦ both (field_sum n f) (f n) 0 (f i) (sum_of_zeros n f (λ j below. h j (omega arith))) (ap f (sym e)) ∙ sum_commutes 0 (f i) ∙ sum_zero (f i)
  | inr ne ↦ both (field_sum n f) (f n) (f i) 0 (sum_of_one n i f (omega arith) h) (h n (λ e. ne (sym e))) ∙ sum_zero (f i)
]
