-- Sums of sectors.
use Rattle.std.proofs.Common.{◌≡◌, ℕ, ◌+◌, ◌/◌, ◌<◌, List, [], ◌∷◌, map, replicate, bit_xor, refl, ap, ◌∙◌}
use Rattle.std.proofs.Math.Numerals.{add-one}
use Rattle.std.specs.Simd.Lanes.{zip2}
use Rattle.gf256.specs.Field.{product}
use Rattle.lane_kernels.specs.Formulas.{scaled_sum}
use Rattle.raid_params.specs.Size.{data_blocks}
use Rattle.raid_params.specs.declared.types.Head.{Head}
use Rattle.raid_terms.specs.Exponent.{HoldsData}
use Rattle.raid_terms.specs.Role.{item_of}
use Rattle.sample_arrays.specs.Arrays.{p_sector, q_sector, row_sector, sum_of, weight_of}

pub no_sectors : (sector : ℕ → List ℕ) → sum_of sector 0 ≡ replicate 512 0
unfolding sum_of
no_sectors sector = refl

pub one_sector_more : (sector : ℕ → List ℕ) (n : ℕ) → sum_of sector (n + 1) ≡ zip2 bit_xor (sum_of sector n) (sector n)
unfolding sum_of
one_sector_more sector n = ap (λ (k : ℕ). sum_of sector k) (add-one n)

pub p_is : (volume : ℕ → List ℕ) (head : Head) (t n : ℕ) (sum : List ℕ) → n ≡ data_blocks head → sum ≡ sum_of (λ item. volume (row_sector head t item)) n → sum ≡ p_sector volume head t
unfolding p_sector
p_is volume head t n sum all is = is ∙ ap (λ (k : ℕ). sum_of (λ item. volume (row_sector head t item)) k) all

pub q_is : (volume : ℕ → List ℕ) (head : Head) (t n : ℕ) (sum : List ℕ) → n ≡ data_blocks head →
    sum ≡ sum_of (λ item. map (product (weight_of head (t / head.chunk) item)) (volume (row_sector head t item))) n → sum ≡ q_sector volume head t
unfolding q_sector
q_is volume head t n sum all is =
    is ∙ ap (λ (k : ℕ). sum_of (λ item. map (product (weight_of head (t / head.chunk) item)) (volume (row_sector head t item))) k) all

pub weighed : (factor : ℕ) (xs ys : List ℕ) → zip2 (scaled_sum factor) xs ys ≡ zip2 bit_xor xs (map (product factor) ys)
weighed factor [] ys = refl
weighed factor (x ∷ xs) [] = refl
weighed factor (x ∷ xs) (y ∷ ys) = ap (λ (zs : List ℕ). bit_xor x (product factor y) ∷ zs) (weighed factor xs ys)

pub holds_item : (head : Head) (row slot item : ℕ) → item < data_blocks head → slot ≡ item_of head row item → HoldsData head row slot
holds_item head row slot item below there = (item, (below, there))
