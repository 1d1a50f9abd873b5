-- Where blocks lie in memory.
use Rattle.std.proofs.Common.{◌≡◌, ℕ, zero, suc, ◌+◌, ◌-◌, ◌*◌, ◌<◌, ◌≤◌, List, [], ◌∷◌, length, take, drop, get_or, map, replicate, slice_range, refl, ap, ◌∙◌, arith}
use Rattle.std.proofs.lemmas.Nat.{mul-le}
use Rattle.std.proofs.lemmas.List.FromFn.{get_or-map-range_with_len, length-map-range_with_len}
use Rattle.std.specs.List.{range_with_len}
use Rattle.survey_engine.specs.Sweep.{blocks_in}
use Rattle.survey_engine.specs.declared.sweep.TheConstants.{BLOCK, BLOCK_BYTES}

-- there are as many as images
pub blocks_length : (images count : ℕ) (bytes : List ℕ) → length (blocks_in images count bytes) ≡ images
unfolding blocks_in
blocks_length images count bytes = length-map-range_with_len (λ i. slice_range bytes (BLOCK_BYTES * i) (BLOCK_BYTES * i + 512 * count)) 0 images

-- each is a region
pub block_at : (images count : ℕ) (bytes : List ℕ) (i : ℕ) → i < images → get_or (blocks_in images count bytes) i [] ≡ slice_range bytes (BLOCK_BYTES * i) (BLOCK_BYTES * i + 512 * count)
unfolding blocks_in
block_at images count bytes i below = get_or-map-range_with_len (λ i. slice_range bytes (BLOCK_BYTES * i) (BLOCK_BYTES * i + 512 * count)) 0 images i i [] below (omega arith)

-- which lies within the bytes
pub block_inside : (images count i : ℕ) (bytes : List ℕ) → length bytes ≡ BLOCK_BYTES * images → count ≤ BLOCK → i < images → BLOCK_BYTES * i + 512 * count ≤ length bytes
block_inside images count i bytes long fits below =
    let most : BLOCK_BYTES * (i + 1) ≤ BLOCK_BYTES * images = mul-le BLOCK_BYTES (i + 1) BLOCK_BYTES images (omega arith) (omega arith) in
    omega arith

empty_from : (f : ℕ → List ℕ) → ((i : ℕ) → f i ≡ []) → (a n : ℕ) → map f (range_with_len a n) ≡ replicate n []
empty_from f none a zero = refl
empty_from f none a (suc n) = ap (λ (x : List ℕ). x ∷ map f (range_with_len (a + 1) n)) (none a) ∙ ap (λ (xs : List (List ℕ)). [] ∷ xs) (empty_from f none (a + 1) n)

none_taken : (at : ℕ) (bytes : List ℕ) → slice_range bytes at (at + 512 * 0) ≡ []
none_taken at bytes = let none : at + 512 * 0 - at ≡ 0 = omega arith in ap (λ (n : ℕ). take n (drop at bytes)) none

-- blocks without a sector
pub no_blocks : (images : ℕ) (bytes : List ℕ) → blocks_in images 0 bytes ≡ replicate images []
unfolding blocks_in
no_blocks images bytes = empty_from (λ i. slice_range bytes (BLOCK_BYTES * i) (BLOCK_BYTES * i + 512 * 0)) (λ i. none_taken (BLOCK_BYTES * i) bytes) 0 images
