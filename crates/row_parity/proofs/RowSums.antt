-- The sum of a filled column: what is known of it, and what the bytes at its missing cells add.
use Rattle.std.proofs.Common.{ℕ, ◌≡◌, ◌<◌, Bool, true, false, cond, List, [], ◌∷◌, length, get_or, drop, refl, sym, ap, ◌∙◌, arith, bit_xor}
use Rattle.std.specs.List.{AllByRecursion}
use Rattle.raid_params.specs.declared.types.Cell.{Cell}
use Rattle.raid_params.specs.declared.types.Part.{Part}
use Rattle.raid_params.specs.declared.types.Part.TheVariants.{Block, P, Q}
use Rattle.gf256.proofs.Sums.{sum_fits, sum_associates, sum_commutes}
use Rattle.gf256.proofs.Products.{product_fits}
use Rattle.gf256.proofs.Powers.{power_fits}
use Rattle.raid_terms.specs.Parity.{sum_of, in_p, in_q}
use Rattle.row_parity.specs.Syndromes.{known_sum}
use Rattle.row_parity.proofs.Fillings.{lost, put, AreBytes}

-- the sum of what these bytes add for these parts
abbrev pub part_sum : (Part → ℕ → ℕ) → List Part → List ℕ → ℕ
part_sum adds [] xs = 0
part_sum adds (part ∷ parts) [] = 0
part_sum adds (part ∷ parts) (x ∷ xs) = bit_xor (adds part x) (part_sum adds parts xs)

-- a + (b + c) is b + (a + c)
pub sum_swap : (a b c : ℕ) → bit_xor a (bit_xor b c) ≡ bit_xor b (bit_xor a c)
sum_swap a b c = sym (sum_associates a b c) ∙ ap (λ x. bit_xor x c) (sum_commutes a b) ∙ sum_associates b a c

put_step : (t : Bool) (adds : Part → ℕ → ℕ) (part : Part) (cells : List Cell) (bytes xs : List ℕ) (byte : ℕ) → AreBytes (cond t (part ∷ lost cells) (lost cells)) xs →
    ((ys : List ℕ) → AreBytes (lost cells) ys → sum_of adds cells (put cells bytes ys) ≡ bit_xor (known_sum adds cells bytes) (part_sum adds (lost cells) ys)) →
    sum_of adds (record { part = part; missing = t } ∷ cells) (cond t (get_or xs 0 0 ∷ put cells bytes (drop 1 xs)) (byte ∷ put cells bytes xs))
    ≡ bit_xor (bit_xor (cond t 0 (adds part byte)) (known_sum adds cells bytes)) (part_sum adds (cond t (part ∷ lost cells) (lost cells)) xs)
unfolding sum_of known_sum
put_step true adds part cells bytes [] byte fit next = absurd fit
put_step true adds part cells bytes (x ∷ xs) byte fit next =
    ap (bit_xor (adds part x)) (next xs fit.1) ∙ sum_swap (adds part x) (known_sum adds cells bytes) (part_sum adds (lost cells) xs)
put_step false adds part cells bytes xs byte fit next =
    ap (bit_xor (adds part byte)) (next xs fit) ∙ sym (sum_associates (adds part byte) (known_sum adds cells bytes) (part_sum adds (lost cells) xs))

pub sum_put : (adds : Part → ℕ → ℕ) (cells : List Cell) (bytes xs : List ℕ) → length bytes ≡ length cells → AreBytes (lost cells) xs →
    sum_of adds cells (put cells bytes xs) ≡ bit_xor (known_sum adds cells bytes) (part_sum adds (lost cells) xs)
unfolding sum_of known_sum
sum_put adds [] bytes [] e fit = refl
sum_put adds [] bytes (x ∷ xs) e fit = absurd fit
sum_put adds (cell ∷ cells) [] xs e fit = absurd (omega arith)
sum_put adds (cell ∷ cells) (byte ∷ bytes) xs e fit =
    put_step cell.missing adds cell.part cells bytes xs byte fit (λ ys. sum_put adds cells bytes ys (omega arith))

-- what a byte adds is a byte
abbrev pub Fitting : (Part → ℕ → ℕ) → Type 0
Fitting adds = (part : Part) (x : ℕ) → x < 256 → adds part x < 256

pub in_p_fits : Fitting in_p
in_p_fits (Block k) x h = h
in_p_fits P x h = h
in_p_fits Q x h = omega arith

pub in_q_fits : Fitting in_q
in_q_fits (Block k) x h = product_fits _ x (power_fits k)
in_q_fits P x h = omega arith
in_q_fits Q x h = h

known_fits : (t : Bool) (x : ℕ) → x < 256 → cond t 0 x < 256
known_fits true x h = omega arith
known_fits false x h = h

pub known_sum_fits : (adds : Part → ℕ → ℕ) → Fitting adds → (cells : List Cell) (bytes : List ℕ) → AllByRecursion (λ x. x < 256) bytes → known_sum adds cells bytes < 256
unfolding known_sum
known_sum_fits adds fitting [] bytes fit = omega arith
known_sum_fits adds fitting (cell ∷ cells) [] fit = omega arith
known_sum_fits adds fitting (cell ∷ cells) (byte ∷ bytes) fit =
    sum_fits (cond cell.missing 0 (adds cell.part byte)) (known_sum adds cells bytes)
    (known_fits cell.missing (adds cell.part byte) (fitting cell.part byte fit.0)) (known_sum_fits adds fitting cells bytes fit.1)
