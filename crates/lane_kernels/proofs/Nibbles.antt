-- A product by the look-ups of both halves of a byte.
use Rattle.std.proofs.Common.{ℕ, ◌≡◌, ◌<◌, ◌≤◌, ◌+◌, ◌*◌, ◌/◌, ◌%◌, ◌^◌, List, [], ◌∷◌, length, map, refl, sym, ap, ap₂, ◌∙◌, arith, zero, suc, Bool, true, ◌&&◌, cond, bit_xor, bit_and, replicate, w8, get_or}
use Rattle.std.proofs.lemmas.Bool.{lt-leb}
use Rattle.std.proofs.lemmas.Simd.{swz_l, SwzOk, SwzOk-from_below}
use Rattle.std.proofs.lemmas.Nat.{and_mask, xor_comm}
use lib.Bits.{xor_shifted}
use lib.Dec.{leb}
use lib.Lanes.{zip2, Each1}
use Rattle.gf256.specs.Field.{product}
use Rattle.gf256.proofs.Products.{additive_right}
use Rattle.lane_kernels.specs.Formulas.{scaled_sum, weighed_sum}
use Rattle.lane_kernels.specs.Tables.{IsTable}

by_halves : (f k : ℕ) → f < 256 → bit_xor (product f (k % 16)) (product f (16 * (k / 16))) ≡ product f k
by_halves f k hf =
    sym (additive_right f (k % 16) (16 * (k / 16)) hf)
    ∙ ap (product f) (xor_comm (k % 16) (16 * (k / 16)) ∙ ap (λ (x : ℕ). bit_xor x (k % 16)) (let e : 16 * (k / 16) ≡ k / 16 * 2 ^ 4 = omega arith in e)
    ∙ xor_shifted (k / 16) 4 (k % 16) (omega arith) ∙ (let e : k / 16 * 2 ^ 4 + k % 16 ≡ k = omega arith in e))

-- the look-up of j in the half of the lanes that lane i is in
look_up : (f unit : ℕ) (tab : List ℕ) (i j : ℕ) → IsTable f unit tab → i < 32 → j < 16 → cond (true && (true && leb 128 j)) 0 (get_or tab (16 * (i / 16) + j) 0) ≡ product f (unit * j)
look_up f unit tab i j t hi hj =
    ap (λ (b : Bool). cond (true && (true && b)) 0 (get_or tab (16 * (i / 16) + j) 0)) (lt-leb 128 j (omega arith))
    ∙ t (16 * (i / 16) + j) (omega arith)
    ∙ ap (λ (k : ℕ). product f (unit * k)) (let e : (16 * (i / 16) + j) % 16 ≡ j = omega arith in e)

pub products_by_halves : (f : ℕ) (low high : List ℕ) → f < 256 → IsTable f 1 low → IsTable f 16 high → (i n : ℕ) (x : List ℕ) → i + n ≤ 32 → length x ≡ n → Each1 (λ k. k < 256) x →
    zip2 bit_xor (swz_l w8 16 low i (zip2 bit_and x (replicate n 15))) (swz_l w8 16 high i (zip2 (λ a b. a / 2 ^ b) x (replicate n 4))) ≡ map (product f) x
products_by_halves f low high hf l h i zero [] le e all = refl
products_by_halves f low high hf l h i (suc n) [] le e all = absurd (omega arith)
products_by_halves f low high hf l h i zero (k ∷ ks) le e all = absurd (omega arith)
products_by_halves f low high hf l h i (suc n) (k ∷ ks) le e all =
    let m : bit_and k 15 ≡ k % 16 = and_mask k 4 in
    let lt : k < 256 = all.0 in
    ap₂ (λ (t : ℕ) (ts : List ℕ). t ∷ ts)
    (ap₂ bit_xor
    (look_up f 1 low i (bit_and k 15) l (omega arith) (omega arith) ∙ ap (product f) (let one : 1 * bit_and k 15 ≡ k % 16 = omega arith in one))
    (look_up f 16 high i (k / 16) h (omega arith) (omega arith))
    ∙ by_halves f k hf)
    (products_by_halves f low high hf l h (suc i) n ks (omega arith) (omega arith) all.1)

low_fits : (n : ℕ) (x : List ℕ) → length x ≡ n → Each1 (λ j. j < 16) (zip2 bit_and x (replicate n 15)) × (length (zip2 bit_and x (replicate n 15)) ≡ n)
low_fits zero [] e = (tt, refl)
low_fits (suc n) [] e = absurd (omega arith)
low_fits zero (k ∷ ks) e = absurd (omega arith)
low_fits (suc n) (k ∷ ks) e =
    let rest = low_fits n ks (omega arith) in
    let m : bit_and k 15 ≡ k % 16 = and_mask k 4 in
    ((omega arith, rest.0), ap suc rest.1)

pub low_ok : (x : List ℕ) → length x ≡ 32 → SwzOk w8 16 32 0 (zip2 bit_and x (replicate 32 15))
low_ok x e = let f = low_fits 32 x e in SwzOk-from_below w8 16 2 32 0 (zip2 bit_and x (replicate 32 15)) refl (omega (arith, f.1)) f.0

high_fits : (n : ℕ) (x : List ℕ) → length x ≡ n → Each1 (λ k. k < 256) x → Each1 (λ j. j < 16) (zip2 (λ a b. a / 2 ^ b) x (replicate n 4)) × (length (zip2 (λ a b. a / 2 ^ b) x (replicate n 4)) ≡ n)
high_fits zero [] e all = (tt, refl)
high_fits (suc n) [] e all = absurd (omega arith)
high_fits zero (k ∷ ks) e all = absurd (omega arith)
high_fits (suc n) (k ∷ ks) e all =
    let rest = high_fits n ks (omega arith) all.1 in
    let lt : k < 256 = all.0 in
    ((omega arith, rest.0), ap suc rest.1)

pub high_ok : (x : List ℕ) → length x ≡ 32 → Each1 (λ k. k < 256) x → SwzOk w8 16 32 0 (zip2 (λ a b. a / 2 ^ b) x (replicate 32 4))
high_ok x e all = let f = high_fits 32 x e all in SwzOk-from_below w8 16 2 32 0 (zip2 (λ a b. a / 2 ^ b) x (replicate 32 4)) refl (omega (arith, f.1)) f.0

-- a sum with a map is the sum with the products, place by place
pub scaled_sums : (f : ℕ) (xs ys : List ℕ) → zip2 bit_xor xs (map (product f) ys) ≡ zip2 (scaled_sum f) xs ys
scaled_sums f [] ys = refl
scaled_sums f (x ∷ xs) [] = refl
scaled_sums f (x ∷ xs) (y ∷ ys) = ap (λ (t : List ℕ). bit_xor x (product f y) ∷ t) (scaled_sums f xs ys)

-- so is a sum of two maps
pub weighed_sums : (f g : ℕ) (xs ys : List ℕ) → zip2 bit_xor (map (product f) xs) (map (product g) ys) ≡ zip2 (weighed_sum f g) xs ys
weighed_sums f g [] ys = refl
weighed_sums f g (x ∷ xs) [] = refl
weighed_sums f g (x ∷ xs) (y ∷ ys) = ap (λ (t : List ℕ). bit_xor (product f x) (product g y) ∷ t) (weighed_sums f g xs ys)
