-- The sums of what is known of a column are weighed sums of the bytes of the images.
use Rattle.std.proofs.Common.{ℕ, ◌≡◌, ◌≢◌, ◌<◌, Bool, true, false, cond, ◌==◌, List, [], ◌∷◌, map, IfSome, refl, sym, ap, ap₂, ◌∙◌, arith, bit_xor}
use Rattle.std.specs.List.{AllByRecursion}
use Rattle.std.specs.declared.option.Option.{Option}
use Rattle.std.specs.declared.option.Option.TheVariants.{None, Some}
use Rattle.std.proofs.lemmas.Bool.{eq-eqb, ne_eqb}
use Rattle.gf256.specs.Field.{power_of, product}
use Rattle.gf256.proofs.Products.{additive_left, product_zero, product_zero_left}
use Rattle.gf256.proofs.Powers.{commutes, power_fits, product_one}
use Rattle.raid_params.specs.declared.types.Cell.{Cell}
use Rattle.raid_params.specs.declared.types.Part.{Part}
use Rattle.raid_params.specs.declared.types.Part.TheVariants.{Block, P, Q}
use Rattle.raid_terms.specs.Parity.{in_p, in_q}
use Rattle.row_parity.specs.Syndromes.{known_in, known_sum}
use Rattle.row_parity.proofs.RowSums.{Fitting, in_p_fits, in_q_fits, known_sum_fits}
use Rattle.volume_classes.specs.Coefficients.{field_sum, unit_byte, unit_column}
use Rattle.volume_classes.proofs.FieldSums.{sum_none, sum_one, sum_same, sum_xor}

-- the byte of the image that a slot holds, and 0 where it is empty
abbrev pub held : (ℕ → ℕ) → Option ℕ → ℕ
held f None = 0
held f (Some i) = f i

-- a byte adds what 1 adds, times itself
pub record IsLinear (adds : Part → ℕ → ℕ) : Type 0 where
  pub fits : Fitting adds
  pub times : (part : Part) (x : ℕ) → x < 256 → adds part x ≡ product (adds part 1) x

one_times : (x : ℕ) → x < 256 → x ≡ product 1 x
one_times x fit = sym (commutes 1 x (omega arith) fit ∙ product_one x fit)

pub p_linear : IsLinear in_p
p_linear = record { fits = in_p_fits; times = times }
  where
    times : (part : Part) (x : ℕ) → x < 256 → in_p part x ≡ product (in_p part 1) x
    times (Block k) x fit = one_times x fit
    times P x fit = one_times x fit
    times Q x fit = sym (product_zero_left x)

pub q_linear : IsLinear in_q
q_linear = record { fits = in_q_fits; times = times }
  where
    times : (part : Part) (x : ℕ) → x < 256 → in_q part x ≡ product (in_q part 1) x
    times (Block k) x fit = ap (λ (a : ℕ). product a x) (sym (product_one (power_of k) (power_fits k)))
    times P x fit = sym (product_zero_left x)
    times Q x fit = one_times x fit

pub adds_none : (adds : Part → ℕ → ℕ) (part : Part) → IsLinear adds → adds part 0 ≡ 0
adds_none adds part linear = linear.times part 0 (omega arith) ∙ product_zero (adds part 1)

pub in_none : (adds : Part → ℕ → ℕ) (cell : Cell) → IsLinear adds → known_in adds cell 0 ≡ 0
in_none adds cell linear = by cell.missing
  where
    by : (t : Bool) → cond t 0 (adds cell.part 0) ≡ 0
    by true = refl
    by false = adds_none adds cell.part linear

in_times : (adds : Part → ℕ → ℕ) (cell : Cell) (x : ℕ) → IsLinear adds → x < 256 → known_in adds cell x ≡ product (known_in adds cell 1) x
in_times adds cell x linear fit = by cell.missing
  where
    by : (t : Bool) → cond t 0 (adds cell.part x) ≡ product (cond t 0 (adds cell.part 1)) x
    by true = sym (product_zero_left x)
    by false = linear.times cell.part x fit

in_fits : (adds : Part → ℕ → ℕ) (cell : Cell) (x : ℕ) → IsLinear adds → x < 256 → known_in adds cell x < 256
in_fits adds cell x linear fit = by cell.missing
  where
    by : (t : Bool) → cond t 0 (adds cell.part x) < 256
    by true = omega arith
    by false = linear.fits cell.part x fit

pub unit_here : (image : ℕ) → unit_byte image (Some image) ≡ 1
unit_here image = ap {B = ℕ} (λ (b : Bool). cond b 1 0) (eq-eqb image image refl)

pub unit_off : (image i : ℕ) → i ≢ image → unit_byte image (Some i) ≡ 0
unit_off image i apart = ap {B = ℕ} (λ (b : Bool). cond b 1 0) (ne_eqb i image apart)

pub unit_fits : (image : ℕ) (slot : Option ℕ) → unit_byte image slot < 256
unit_fits image None = omega arith
unit_fits image (Some i) = by (i == image)
  where
    by : (t : Bool) → cond t 1 0 < 256
    by true = omega arith
    by false = omega arith

pub units_fit : (image : ℕ) (slots : List (Option ℕ)) → AllByRecursion (λ x. x < 256) (unit_column image slots)
units_fit image [] = tt
units_fit image (slot ∷ slots) = (unit_fits image slot, units_fit image slots)

-- a slot's byte is the sum, over the images, of the unit byte times the image's
pub held_is : (slot : Option ℕ) (f : ℕ → ℕ) (n : ℕ) → IfSome slot (λ i. i < n) → ((i : ℕ) → i < n → f i < 256) → held f slot ≡ field_sum (λ j. product (unit_byte j slot) (f j)) n
held_is None f n below fit = sym (sum_none (λ j. product 0 (f j)) n (λ j lt. product_zero_left (f j)))
held_is (Some i) f n below fit =
    sym (sum_one (λ j. product (unit_byte j (Some i)) (f j)) n i below (λ j lt apart. ap (λ (u : ℕ). product u (f j)) (unit_off j i (λ e. apart (sym e))) ∙ product_zero_left (f j))
    ∙ ap (λ (u : ℕ). product u (f i)) (unit_here i) ∙ sym (one_times (f i) (fit i below)))

first_is : (adds : Part → ℕ → ℕ) (cell : Cell) (slot : Option ℕ) (f : ℕ → ℕ) (n : ℕ) → IsLinear adds → IfSome slot (λ i. i < n) → ((i : ℕ) → i < n → f i < 256) →
    known_in adds cell (held f slot) ≡ field_sum (λ j. product (known_in adds cell (unit_byte j slot)) (f j)) n
first_is adds cell None f n linear below fit =
    in_none adds cell linear ∙ sym (sum_none (λ j. product (known_in adds cell 0) (f j)) n (λ j lt. ap (λ (u : ℕ). product u (f j)) (in_none adds cell linear) ∙ product_zero_left (f j)))
first_is adds cell (Some i) f n linear below fit =
    in_times adds cell (f i) linear (fit i below)
    ∙ sym (sum_one (λ j. product (known_in adds cell (unit_byte j (Some i))) (f j)) n i below
    (λ j lt apart. ap (λ (u : ℕ). product (known_in adds cell u) (f j)) (unit_off j i (λ e. apart (sym e))) ∙ ap (λ (u : ℕ). product u (f j)) (in_none adds cell linear) ∙ product_zero_left (f j))
    ∙ ap (λ (u : ℕ). product (known_in adds cell u) (f i)) (unit_here i))

-- so is the sum of what is known
pub known_is : (adds : Part → ℕ → ℕ) (cells : List Cell) (slots : List (Option ℕ)) (f : ℕ → ℕ) (n : ℕ) → IsLinear adds → AllByRecursion (λ slot. IfSome slot (λ i. i < n)) slots →
    ((i : ℕ) → i < n → f i < 256) → known_sum adds cells (map (held f) slots) ≡ field_sum (λ j. product (known_sum adds cells (unit_column j slots)) (f j)) n
unfolding known_sum
known_is adds [] slots f n linear below fit = sym (sum_none (λ j. product 0 (f j)) n (λ j lt. product_zero_left (f j)))
known_is adds (cell ∷ cells) [] f n linear below fit = sym (sum_none (λ j. product 0 (f j)) n (λ j lt. product_zero_left (f j)))
known_is adds (cell ∷ cells) (slot ∷ slots) f n linear below fit =
    ap₂ bit_xor (first_is adds cell slot f n linear below.0 fit) (known_is adds cells slots f n linear below.1 fit)
    ∙ sym (sum_xor (λ j. product (known_in adds cell (unit_byte j slot)) (f j)) (λ j. product (known_sum adds cells (unit_column j slots)) (f j)) n)
    ∙ sum_same (λ j. bit_xor (product (known_in adds cell (unit_byte j slot)) (f j)) (product (known_sum adds cells (unit_column j slots)) (f j)))
    (λ j. product (bit_xor (known_in adds cell (unit_byte j slot)) (known_sum adds cells (unit_column j slots))) (f j)) n
    (λ j lt. sym (additive_left (known_in adds cell (unit_byte j slot)) (known_sum adds cells (unit_column j slots)) (f j) (in_fits adds cell (unit_byte j slot) linear (unit_fits j slot))
    (known_sum_fits adds linear.fits cells (unit_column j slots) (units_fit j slots))))
