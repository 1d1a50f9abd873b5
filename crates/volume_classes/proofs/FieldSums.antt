-- Sums in the field of bytes.
use Rattle.std.proofs.Common.{ℕ, zero, suc, ◌≡◌, ◌≢◌, ◌<◌, refl, sym, ap, ap₂, ◌∙◌, arith, bit_xor, inl, inr}
use Rattle.std.proofs.lemmas.Bool.{cases_eq}
use Rattle.gf256.specs.Field.{product}
use Rattle.gf256.proofs.Sums.{sum_commutes, sum_zero}
use Rattle.gf256.proofs.Products.{additive_right, product_zero, xor_swap}
use Rattle.volume_classes.specs.Coefficients.{field_sum}

pub zero_sum : (a : ℕ) → bit_xor 0 a ≡ a
zero_sum a = sum_commutes 0 a ∙ sum_zero a

pub sum_same : (f g : ℕ → ℕ) (n : ℕ) → ((i : ℕ) → i < n → f i ≡ g i) → field_sum f n ≡ field_sum g n
unfolding field_sum
sum_same f g zero same = refl
sum_same f g (suc n) same = ap₂ bit_xor (sum_same f g n (λ i below. same i (omega arith))) (same n (omega arith))

pub sum_none : (f : ℕ → ℕ) (n : ℕ) → ((i : ℕ) → i < n → f i ≡ 0) → field_sum f n ≡ 0
unfolding field_sum
sum_none f zero none = refl
sum_none f (suc n) none = ap₂ bit_xor (sum_none f n (λ i below. none i (omega arith))) (none n (omega arith))

pub sum_xor : (f g : ℕ → ℕ) (n : ℕ) → field_sum (λ i. bit_xor (f i) (g i)) n ≡ bit_xor (field_sum f n) (field_sum g n)
unfolding field_sum
sum_xor f g zero = refl
sum_xor f g (suc n) = ap (λ (s : ℕ). bit_xor s (bit_xor (f n) (g n))) (sum_xor f g n) ∙ xor_swap (field_sum f n) (field_sum g n) (f n) (g n)

-- all terms but one are 0
pub sum_one : (f : ℕ → ℕ) (n i : ℕ) → i < n → ((j : ℕ) → j < n → j ≢ i → f j ≡ 0) → field_sum f n ≡ f i
unfolding field_sum
sum_one f zero i below others = absurd (omega arith)
sum_one f (suc n) i below others =
    elim (cases_eq i n) [
      | inl same ↦ ap (λ (s : ℕ). bit_xor s (f n)) (sum_none f n (λ j lt. others j (omega arith) (λ e. absurd (omega arith)))) ∙ zero_sum (f n) ∙ ap f (sym same)
      | inr apart ↦ ap₂ bit_xor (sum_one f n i (let ne : i ≢ n = apart in omega arith) (λ j lt ne. others j (omega arith) ne)) (others n (omega arith) (λ e. apart (sym e))) ∙ sum_zero (f i)
    ]

pub sum_times : (a : ℕ) (f : ℕ → ℕ) (n : ℕ) → a < 256 → product a (field_sum f n) ≡ field_sum (λ i. product a (f i)) n
unfolding field_sum
sum_times a f zero fit = product_zero a
sum_times a f (suc n) fit = additive_right a (field_sum f n) (f n) fit ∙ ap (λ (s : ℕ). bit_xor s (product a (f n))) (sum_times a f n fit)
