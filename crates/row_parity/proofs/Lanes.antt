-- Doubling on lanes.
use Rattle.std.proofs.Common.{ℕ, zero, suc, ◌≡◌, ◌<◌, ◌≤◌, ◌+◌, ◌-◌, ◌*◌, ◌/◌, ◌%◌, ◌^◌, ◌==◌, List, [], ◌∷◌, length, map, replicate, refl, ap, ap₂, ◌∙◌, arith, bit_and, bit_xor, get_or, drop, eqb, not, Bool, true, false, cond, Fits, w8}
use Rattle.std.proofs.lemmas.Bool.{eqb-true, eq-eqb}
use Rattle.std.proofs.lemmas.Simd.{chunk-fits, below_from_Fits}
use Rattle.std.proofs.lemmas.List.{get_or-take, get_or-drop}
use lib.Lanes.{zip2, Each1, chunk, mask_l, put_chunk}
use Rattle.gf256.specs.Field.{double}
use Rattle.gf256.proofs.EachByte.{at_each, double_fits}
use Rattle.gf256.proofs.Sums.{sum_fits}

-- what the lanes compute is the double, at each byte
lane_double : (x : ℕ) → x < 256 → bit_xor ((x + x) % 256) (bit_and ((0 + (256 - x / 2 ^ 7)) % 256) 29) ≡ double x
lane_double x h = eqb-true (bit_xor ((x + x) % 256) (bit_and ((0 + (256 - x / 2 ^ 7)) % 256) 29)) (double x) (at_each 256 (λ k. bit_xor ((k + k) % 256) (bit_and ((0 + (256 - k / 2 ^ 7)) % 256) 29) == double k) refl x h)

pub lanes_double : (n : ℕ) (xs : List ℕ) → length xs ≡ n → Each1 (λ x. x < 256) xs →
    zip2 bit_xor (zip2 (λ a b. (a + b) % 256) xs xs) (zip2 bit_and (zip2 (λ a b. (a + (256 - b)) % 256) (replicate n 0) (zip2 (λ a b. a / 2 ^ b) xs (replicate n 7))) (replicate n 29)) ≡ map double xs
lanes_double zero [] e all = refl
lanes_double (suc n) [] e all = absurd (omega arith)
lanes_double zero (x ∷ xs) e all = absurd (omega arith)
lanes_double (suc n) (x ∷ xs) e all = ap₂ (λ (h : ℕ) (t : List ℕ). h ∷ t) (lane_double x all.0) (lanes_double n xs (omega arith) all.1)

pub chunk_below : (xs : List ℕ) (i n : ℕ) → ((k : ℕ) → Fits w8 (get_or xs k 0)) → Each1 (λ x. x < 256) (chunk i n xs)
chunk_below xs i n h = below_from_Fits w8 (chunk i n xs) (chunk-fits w8 i n xs h)

pub chunk_lane : (xs : List ℕ) (i n l : ℕ) → l < n → get_or (chunk i n xs) l 0 ≡ get_or xs (i + l) 0
chunk_lane xs i n l h = get_or-take n (drop i xs) l 0 h ∙ get_or-drop i xs l 0

pub map_long : (xs : List ℕ) → length (map double xs) ≡ length xs
map_long [] = refl
map_long (x ∷ xs) = ap suc (map_long xs)

pub map_fits : (xs : List ℕ) → Each1 (λ x. x < 256) xs → Each1 (λ x. x < 256) (map double xs)
map_fits [] all = tt
map_fits (x ∷ xs) all = (double_fits x all.0, map_fits xs all.1)

pub map_lane : (xs : List ℕ) (l : ℕ) → l < length xs → get_or (map double xs) l 0 ≡ double (get_or xs l 0)
map_lane [] l h = absurd (omega arith)
map_lane (x ∷ xs) zero h = refl
map_lane (x ∷ xs) (suc l) h = map_lane xs l (omega arith)

pub sum_lanes_fit : (xs ys : List ℕ) → Each1 (λ x. x < 256) xs → Each1 (λ x. x < 256) ys → Each1 (λ x. x < 256) (zip2 bit_xor xs ys)
sum_lanes_fit [] ys a b = tt
sum_lanes_fit (x ∷ xs) [] a b = tt
sum_lanes_fit (x ∷ xs) (y ∷ ys) a b = (sum_fits x y a.0 b.0, sum_lanes_fit xs ys a.1 b.1)

pub zeros_fit : (n : ℕ) → Each1 (λ x. x < 256) (replicate n 0)
zeros_fit zero = tt
zeros_fit (suc n) = (omega arith, zeros_fit n)

pub zeros_are : (n l : ℕ) → get_or {A = ℕ} (replicate n 0) l 0 ≡ 0
zeros_are zero l = refl
zeros_are (suc n) zero = refl
zeros_are (suc n) (suc l) = zeros_are n l

-- a mask of the lanes that are not 0
pub zero_lanes : (v : List ℕ) → mask_l (map (λ x. not (eqb x 0)) v) ≡ 0 → (l : ℕ) → l < length v → get_or v l 0 ≡ 0
zero_lanes [] m l h = absurd (omega arith)
zero_lanes (x ∷ v) m zero h = eqb-true x 0 (at (eqb x 0) m)
  where
    at : (t : Bool) → cond (not t) 1 0 + 2 * mask_l (map (λ x. not (eqb x 0)) v) ≡ 0 → t ≡ true
    at true e = refl
    at false e = absurd (omega arith)
zero_lanes (x ∷ v) m (suc l) h = zero_lanes v (at (eqb x 0) m) l (omega arith)
  where
    at : (t : Bool) → cond (not t) 1 0 + 2 * mask_l (map (λ x. not (eqb x 0)) v) ≡ 0 → mask_l (map (λ x. not (eqb x 0)) v) ≡ 0
    at true e = omega arith
    at false e = absurd (omega arith)

pub mask_none : (v : List ℕ) → ((l : ℕ) → l < length v → get_or v l 0 ≡ 0) → mask_l (map (λ x. not (eqb x 0)) v) ≡ 0
mask_none [] h = refl
mask_none (x ∷ v) h =
    let rest = mask_none v (λ l below. h (suc l) (omega arith)) in
    let t : eqb x 0 ≡ true = eq-eqb x 0 (h 0 (omega arith)) in
    rw t (omega arith)

pub lane_fits : (v : List ℕ) (l : ℕ) → Each1 (λ x. x < 256) v → l < length v → get_or v l 0 < 256
lane_fits [] l all h = absurd (omega arith)
lane_fits (x ∷ v) zero all h = all.0
lane_fits (x ∷ v) (suc l) all h = lane_fits v l all.1 (omega arith)

-- lanes that were written into a list
pub put_before : (i : ℕ) (xs ys : List ℕ) (p : ℕ) → p < i → get_or (put_chunk i xs ys) p 0 ≡ get_or xs p 0
put_before i [] ys p h = refl
put_before zero (x ∷ xs) ys p h = absurd (omega arith)
put_before (suc i) (x ∷ xs) ys zero h = refl
put_before (suc i) (x ∷ xs) ys (suc p) h = put_before i xs ys p (omega arith)

put_front : (xs ys : List ℕ) (l : ℕ) → l < length ys → length ys ≤ length xs → get_or (put_chunk zero xs ys) l 0 ≡ get_or ys l 0
put_front [] [] l h fits = absurd (omega arith)
put_front [] (y ∷ ys) l h fits = absurd (omega arith)
put_front (x ∷ xs) [] l h fits = absurd (omega arith)
put_front (x ∷ xs) (y ∷ ys) zero h fits = refl
put_front (x ∷ xs) (y ∷ ys) (suc l) h fits = put_front xs ys l (omega arith) (omega arith)

pub put_inside : (i : ℕ) (xs ys : List ℕ) (l p : ℕ) → p ≡ i + l → l < length ys → i + length ys ≤ length xs → get_or (put_chunk i xs ys) p 0 ≡ get_or ys l 0
put_inside zero xs ys l p e h fits = let same : p ≡ l = omega arith in ap (λ (k : ℕ). get_or (put_chunk zero xs ys) k 0) same ∙ put_front xs ys l h (omega arith)
put_inside (suc i) [] ys l p e h fits = absurd (omega arith)
put_inside (suc i) (x ∷ xs) ys l zero e h fits = absurd (omega arith)
put_inside (suc i) (x ∷ xs) ys l (suc p) e h fits = put_inside i xs ys l p (omega arith) h (omega arith)

pub put_after : (i : ℕ) (xs ys : List ℕ) (p : ℕ) → i + length ys ≤ p → get_or (put_chunk i xs ys) p 0 ≡ get_or xs p 0
put_after i [] ys p h = refl
put_after zero (x ∷ xs) [] p h = refl
put_after zero (x ∷ xs) (y ∷ ys) zero h = absurd (omega arith)
put_after zero (x ∷ xs) (y ∷ ys) (suc p) h = put_after zero xs ys p (omega arith)
put_after (suc i) (x ∷ xs) ys zero h = absurd (omega arith)
put_after (suc i) (x ∷ xs) ys (suc p) h = put_after i xs ys p (omega arith)
