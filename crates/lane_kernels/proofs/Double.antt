-- Doubling on lanes.
use Rattle.std.proofs.Common.{ℕ, ◌≡◌, ◌<◌, ◌+◌, ◌*◌, ◌/◌, ◌%◌, ◌^◌, List, [], ◌∷◌, length, refl, ap₂, arith, zero, suc, ◌==◌, bit_xor, replicate, Fits, w8, get_or}
use Rattle.std.proofs.lemmas.Bool.{eqb-true}
use Rattle.std.proofs.lemmas.Simd.{chunk-fits, below_from_Fits}
use lib.Lanes.{zip2, chunk, Each1}
use Rattle.gf256.specs.Field.{double}
use Rattle.gf256.proofs.EachByte.{at_each}
use Rattle.lane_kernels.specs.Formulas.{double_sum}

-- what the lanes compute is the double, at each byte
lane_double : (x : ℕ) → x < 256 → bit_xor ((x + x) % 256) (x / 2 ^ 7 * 29 % 256) ≡ double x
lane_double x h = eqb-true (bit_xor ((x + x) % 256) (x / 2 ^ 7 * 29 % 256)) (double x) (at_each 256 (λ k. bit_xor ((k + k) % 256) (k / 2 ^ 7 * 29 % 256) == double k) refl x h)

pub lanes_double : (n : ℕ) (xs ys : List ℕ) → length xs ≡ n → length ys ≡ n → Each1 (λ x. x < 256) xs →
    zip2 bit_xor (zip2 bit_xor (zip2 (λ a b. (a + b) % 256) xs xs) (zip2 (λ a b. a * b % 256) (zip2 (λ a b. a / 2 ^ b) xs (replicate n 7)) (replicate n 29))) ys
    ≡ zip2 double_sum xs ys
lanes_double zero [] ys e f all = refl
lanes_double (suc n) [] ys e f all = absurd (omega arith)
lanes_double zero (x ∷ xs) ys e f all = absurd (omega arith)
lanes_double (suc n) (x ∷ xs) [] e f all = absurd (omega arith)
lanes_double (suc n) (x ∷ xs) (y ∷ ys) e f all =
    ap₂ (λ (h : ℕ) (t : List ℕ). bit_xor h y ∷ t) (lane_double x all.0) (lanes_double n xs ys (omega arith) (omega arith) all.1)

pub chunk_below : (xs : List ℕ) (i n : ℕ) → ((k : ℕ) → Fits w8 (get_or xs k 0)) → Each1 (λ x. x < 256) (chunk i n xs)
chunk_below xs i n h = below_from_Fits w8 (chunk i n xs) (chunk-fits w8 i n xs h)
