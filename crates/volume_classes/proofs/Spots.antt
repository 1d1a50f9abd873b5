-- Columns with one byte that is not 0.
use Rattle.std.proofs.Common.{ℕ, zero, suc, ◌≡◌, ◌≢◌, ◌+◌, ◌<◌, Bool, true, false, cond, ◌==◌, ◌||◌, List, [], ◌∷◌, map, length, get_or, take, slice_index_or, refl, sym, ap, ap₂, ◌∙◌, arith, bit_xor, inl, inr}
use Rattle.std.specs.List.{range_with_len}
use Rattle.std.specs.declared.option.Option.{Option}
use Rattle.std.specs.declared.option.Option.TheVariants.{None, Some}
use Rattle.std.proofs.lemmas.Bool.{cases_eq, cases_lt, eq-eqb, ne_eqb, or_right, false≢true}
use Rattle.std.proofs.lemmas.List.{get_or-map, length-map}
use Rattle.std.proofs.lemmas.List.FromFn.{fill_by_all}
use Rattle.gf256.proofs.Sums.{sum_zero}
use Rattle.gf256.proofs.Products.{additive_right, xor_swap}
use Rattle.gf256.proofs.Powers.{power_fits}
use Rattle.raid_params.specs.declared.types.Cell.{Cell}
use Rattle.raid_params.specs.declared.types.Geometry.{Geometry}
use Rattle.raid_params.specs.declared.types.Part.{Part}
use Rattle.raid_params.specs.declared.types.Part.TheVariants.{Block, P, Q}
use Rattle.raid_params.specs.Slots.{stands}
use Rattle.raid_params.specs.Validity.{is_shaped}
use Rattle.raid_layouts.proofs.Shapes.{shaped_once}
use Rattle.raid_terms.specs.Parity.{in_p, in_q}
use Rattle.row_parity.specs.Known.{no_cell}
use Rattle.row_parity.specs.Syndromes.{known_in, known_sum}
use Rattle.volume_classes.specs.Coefficients.{unit_byte, unit_column}
use Rattle.volume_classes.proofs.FieldSums.{zero_sum}
use Rattle.volume_classes.proofs.KnownSums.{IsLinear, in_none, unit_here, unit_off}

-- this byte at place s, and 0 elsewhere
abbrev pub spot : ℕ → ℕ → ℕ → ℕ
spot s byte t = cond (t == s) byte 0

pub spot_here : (s byte t : ℕ) → t ≡ s → spot s byte t ≡ byte
spot_here s byte t e = ap {B = ℕ} (λ (b : Bool). cond b byte 0) (eq-eqb t s e)

pub spot_off : (s byte t : ℕ) → t ≢ s → spot s byte t ≡ 0
spot_off s byte t e = ap {B = ℕ} (λ (b : Bool). cond b byte 0) (ne_eqb t s e)

-- what two bytes add is what their sum adds
abbrev pub IsAdditive : (Part → ℕ → ℕ) → Type 0
IsAdditive adds = (part : Part) (x y : ℕ) → adds part (bit_xor x y) ≡ bit_xor (adds part x) (adds part y)

pub p_adds : IsAdditive in_p
p_adds (Block k) x y = refl
p_adds P x y = refl
p_adds Q x y = refl

pub q_adds : IsAdditive in_q
q_adds (Block k) x y = additive_right _ x y (power_fits k)
q_adds P x y = refl
q_adds Q x y = refl

in_adds : (adds : Part → ℕ → ℕ) (cell : Cell) (x y : ℕ) → IsAdditive adds → known_in adds cell (bit_xor x y) ≡ bit_xor (known_in adds cell x) (known_in adds cell y)
in_adds adds cell x y additive = by cell.missing
  where
    by : (t : Bool) → cond t 0 (adds cell.part (bit_xor x y)) ≡ bit_xor (cond t 0 (adds cell.part x)) (cond t 0 (adds cell.part y))
    by true = refl
    by false = additive cell.part x y

-- the sum over two columns
pub known_adds : (adds : Part → ℕ → ℕ) (cells : List Cell) (g h : ℕ → ℕ) (a : ℕ) → IsAdditive adds →
    known_sum adds cells (map (λ t. bit_xor (g t) (h t)) (range_with_len a (length cells))) ≡
    bit_xor (known_sum adds cells (map g (range_with_len a (length cells)))) (known_sum adds cells (map h (range_with_len a (length cells))))
unfolding known_sum
known_adds adds [] g h a additive = refl
known_adds adds (cell ∷ cells) g h a additive =
    ap₂ bit_xor (in_adds adds cell (g a) (h a) additive) (known_adds adds cells g h (a + 1) additive)
    ∙ xor_swap (known_in adds cell (g a)) (known_in adds cell (h a)) (known_sum adds cells (map g (range_with_len (a + 1) (length cells)))) (known_sum adds cells (map h (range_with_len (a + 1) (length cells))))

-- the sum over one byte
spot_none : (adds : Part → ℕ → ℕ) (cells : List Cell) (a s byte : ℕ) → IsLinear adds → s < a → known_sum adds cells (map (spot s byte) (range_with_len a (length cells))) ≡ 0
unfolding known_sum
spot_none adds [] a s byte linear past = refl
spot_none adds (cell ∷ cells) a s byte linear past =
    ap₂ bit_xor (ap (known_in adds cell) (spot_off s byte a (λ e. absurd (omega arith))) ∙ in_none adds cell linear) (spot_none adds cells (a + 1) s byte linear (omega arith))

spot_from : (adds : Part → ℕ → ℕ) (cells : List Cell) (a k s byte : ℕ) → IsLinear adds → a + k ≡ s → k < length cells →
    known_sum adds cells (map (spot s byte) (range_with_len a (length cells))) ≡ known_in adds (get_or cells k no_cell) byte
unfolding known_sum
spot_from adds [] a k s byte linear at below = absurd (omega arith)
spot_from adds (cell ∷ cells) a zero s byte linear at below =
    ap₂ bit_xor (ap (known_in adds cell) (spot_here s byte a (omega arith))) (spot_none adds cells (a + 1) s byte linear (omega arith)) ∙ sum_zero (known_in adds cell byte)
spot_from adds (cell ∷ cells) a (suc k) s byte linear at below =
    ap₂ bit_xor (ap (known_in adds cell) (spot_off s byte a (λ e. absurd (omega arith))) ∙ in_none adds cell linear) (spot_from adds cells (a + 1) k s byte linear (omega arith) (omega arith))
    ∙ zero_sum (known_in adds (get_or cells k no_cell) byte)

pub spot_sum : (adds : Part → ℕ → ℕ) (cells : List Cell) (s byte : ℕ) → IsLinear adds → s < length cells →
    known_sum adds cells (map (spot s byte) (range_with_len 0 (length cells))) ≡ known_in adds (get_or cells s no_cell) byte
spot_sum adds cells s byte linear below = spot_from adds cells 0 s s byte linear (omega arith) below

-- an image stands in one slot alone
stands_before : (i t at : ℕ) (slots : List (Option ℕ)) → t < at → get_or slots t None ≡ Some i → stands i (take at slots) ≡ true
unfolding stands
stands_before i t zero slots less e = absurd (omega arith)
stands_before i t (suc at) [] less e = absurd (let none : None ≡ Some i = e in cc)
stands_before i zero (suc at) (None ∷ slots) less e = absurd (let none : None ≡ Some i = e in cc)
stands_before i zero (suc at) (Some k ∷ slots) less e = let same : i ≡ k = cc in ap (λ (b : Bool). b || stands i (take at slots)) (eq-eqb i k same)
stands_before i (suc t) (suc at) (None ∷ slots) less e = stands_before i t at slots (omega arith) e
stands_before i (suc t) (suc at) (Some k ∷ slots) less e = or_right (i == k) (stands i (take at slots)) (stands_before i t at slots (omega arith) e)

pub alone : (geo : Geometry) (images i s t : ℕ) → is_shaped geo images ≡ true → s < length geo.slots.items → t < length geo.slots.items → t ≢ s → slice_index_or geo.slots.items s None ≡ Some i →
    slice_index_or geo.slots.items t None ≢ Some i
alone geo images i s t shaped below inside apart e same =
    elim (cases_lt t s) [
      | inl before ↦ false≢true (sym (shaped_once geo images s i shaped below e) ∙ stands_before i t s geo.slots.items before same)
      | inr after ↦ false≢true (sym (shaped_once geo images t i shaped inside same) ∙ stands_before i s t geo.slots.items (omega arith) e)
    ]

unit_other : (image : ℕ) (slot : Option ℕ) → slot ≢ Some image → unit_byte image slot ≡ 0
unit_other image None off = refl
unit_other image (Some i) off = unit_off image i (λ e. off (ap (λ (k : ℕ). Some k) e))

-- the column of an image that stands in slot s
pub unit_is : (geo : Geometry) (images i s : ℕ) → is_shaped geo images ≡ true → s < length geo.slots.items → slice_index_or geo.slots.items s None ≡ Some i →
    unit_column i geo.slots.items ≡ map (spot s 1) (range_with_len 0 (length geo.slots.items))
unit_is geo images i s shaped below e =
    fill_by_all (spot s 1) (unit_column i geo.slots.items) (length geo.slots.items) 0 (length-map geo.slots.items (unit_byte i))
    (λ k lt. get_or-map (unit_byte i) geo.slots.items k None 0 lt ∙ at k lt)
  where
    at : (k : ℕ) → k < length geo.slots.items → unit_byte i (get_or geo.slots.items k None) ≡ spot s 1 k
    at k lt = elim (cases_eq k s) [
      | inl same ↦ ap (λ (t : ℕ). unit_byte i (get_or geo.slots.items t None)) same ∙ ap (unit_byte i) e ∙ unit_here i ∙ sym (spot_here s 1 k same)
      | inr apart ↦ unit_other i (get_or geo.slots.items k None) (alone geo images i s k shaped below lt apart e) ∙ sym (spot_off s 1 k apart)
    ]
