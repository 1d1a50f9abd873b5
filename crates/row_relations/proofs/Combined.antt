-- Weighed sums of sectors.
use Rattle.std.proofs.Common.{ℕ, ◌≡◌, ◌<◌, List, bit_xor, ap, ◌∙◌}
use Rattle.gf256.specs.Field.{product}
use Rattle.gf256.proofs.Products.{additive_left, associates, product_fits, product_zero_left}
use Rattle.row_relations.specs.Rows.{byte_of, combined}
use Rattle.row_relations.proofs.FieldSums.{sum_same, sum_splits, sum_scales, sum_of_zeros, sum_is_byte}

pub combined_is_byte : (n : ℕ) (w : ℕ → ℕ) (sectors : List ℕ) (c : ℕ) → ((i : ℕ) → w i < 256) → combined n w sectors c < 256
combined_is_byte n w sectors c h = sum_is_byte n (λ i. product (w i) (byte_of sectors i c)) (λ i lt. product_fits (w i) (byte_of sectors i c) (h i))

pub combined_adds : (n : ℕ) (v w : ℕ → ℕ) (sectors : List ℕ) (c : ℕ) → ((i : ℕ) → v i < 256) → ((i : ℕ) → w i < 256) →
    combined n (λ i. bit_xor (v i) (w i)) sectors c ≡ bit_xor (combined n v sectors c) (combined n w sectors c)
combined_adds n v w sectors c hv hw =
    let x = λ (i : ℕ). byte_of sectors i c in
    sum_same n (λ i. product (bit_xor (v i) (w i)) (x i)) (λ i. bit_xor (product (v i) (x i)) (product (w i) (x i))) (λ i lt. additive_left (v i) (w i) (x i) (hv i) (hw i))
    ∙ sum_splits n (λ i. product (v i) (x i)) (λ i. product (w i) (x i))

pub combined_scales : (n a : ℕ) (w : ℕ → ℕ) (sectors : List ℕ) (c : ℕ) → a < 256 → ((i : ℕ) → w i < 256) →
    combined n (λ i. product a (w i)) sectors c ≡ product a (combined n w sectors c)
combined_scales n a w sectors c ha hw =
    let x = λ (i : ℕ). byte_of sectors i c in
    sum_same n (λ i. product (product a (w i)) (x i)) (λ i. product a (product (w i) (x i))) (λ i lt. associates a (w i) (x i) ha (hw i))
    ∙ sum_scales n a (λ i. product (w i) (x i)) ha

pub combined_of_zeros : (n : ℕ) (w : ℕ → ℕ) (sectors : List ℕ) (c : ℕ) → ((i : ℕ) → i < n → w i ≡ 0) → combined n w sectors c ≡ 0
combined_of_zeros n w sectors c h =
    let x = λ (i : ℕ). byte_of sectors i c in
    sum_of_zeros n (λ i. product (w i) (x i)) (λ i lt. ap (λ (a : ℕ). product a (x i)) (h i lt) ∙ product_zero_left (x i))

pub combined_same : (n : ℕ) (v w : ℕ → ℕ) (sectors : List ℕ) (c : ℕ) → ((i : ℕ) → i < n → v i ≡ w i) → combined n v sectors c ≡ combined n w sectors c
combined_same n v w sectors c h =
    let x = λ (i : ℕ). byte_of sectors i c in
    sum_same n (λ i. product (v i) (x i)) (λ i. product (w i) (x i)) (λ i lt. ap (λ (a : ℕ). product a (x i)) (h i lt))
