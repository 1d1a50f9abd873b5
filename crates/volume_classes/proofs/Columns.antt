-- The bytes of a column that the images give, and the lost ones, are weighed sums of the bytes of the images.
use Rattle.std.proofs.Common.{ℕ, zero, suc, ◌≡◌, ◌+◌, ◌<◌, List, [], ◌∷◌, map, length, take, drop, get_or, slice_get, slice_index, slice_index_or, IfSome, refl, sym, ap, ap₂, ◌∙◌, subst, arith, bit_xor, true}
use Rattle.std.specs.List.{AllByRecursion}
use Rattle.std.specs.Option.{is_none, option_or}
use Rattle.std.specs.declared.option.Option.{Option}
use Rattle.std.specs.declared.option.Option.TheVariants.{None, Some}
use Rattle.std.proofs.lemmas.List.{get_or-map, length-map}
use Rattle.std.proofs.lemmas.List.Elements.{recursion_from_All}
use Rattle.gf256.specs.Field.{power_of, product}
use Rattle.gf256.proofs.Products.{additive_left, associates, product_fits}
use Rattle.gf256.proofs.Powers.{not_zero, power_fits, sum_not_zero}
use Rattle.gf256.proofs.Sums.{sum_fits}
use Rattle.gf256.proofs.Undoing.{has_inverse}
use Rattle.raid_params.specs.declared.types.Cell.{Cell}
use Rattle.raid_params.specs.declared.types.Geometry.{Geometry}
use Rattle.raid_params.specs.declared.types.Head.{Head}
use Rattle.raid_params.specs.declared.types.Part.{Part}
use Rattle.raid_params.specs.declared.types.Part.TheVariants.{Block, P, Q}
use Rattle.raid_params.specs.Validity.{is_shaped}
use Rattle.raid_layouts.proofs.Counts.{cells_length}
use Rattle.raid_layouts.proofs.Shapes.{shaped_images}
use Rattle.raid_layouts.proofs.Solvable.{row_is}
use Rattle.raid_terms.specs.Cells.{cells_from, part_of, row_cells}
use Rattle.raid_terms.specs.Parity.{in_p, in_q, IsRow}
use Rattle.raid_terms.specs.Solving.{lost_byte}
use Rattle.lane_kernels.specs.Formulas.{weighed_sum}
use Rattle.row_parity.specs.LostBytes.{Apart, Finds, first_missing}
use Rattle.row_parity.specs.Syndromes.{known_sum}
use Rattle.row_parity.proofs.RowSums.{in_p_fits, in_q_fits, known_sum_fits}
use Rattle.pq_parity.specs.Finding.{FindsAt}
use Rattle.pq_parity.proofs.LostColumns.{apart_in_row, lost_is}
use Rattle.pq_parity.proofs.Pairs.{finds_data, finds_data_beside_data, finds_data_beside_p, finds_data_beside_q, finds_p, finds_p_beside_data, finds_p_beside_q, finds_q, finds_q_beside_data, finds_q_beside_p}
use Rattle.volume_classes.specs.Coefficients.{field_sum, found_byte, unit_byte, unit_column}
use Rattle.volume_classes.proofs.FieldSums.{sum_same, sum_times, sum_xor}
use Rattle.volume_classes.proofs.KnownSums.{held, held_is, known_is, p_linear, q_linear, units_fit}

-- the cell of a slot
abbrev pub cell_of : Head → ℕ → ℕ → Option ℕ → Cell
cell_of head row slot slot_held = record { part = part_of head row slot; missing = is_none slot_held }

cell_from : (head : Head) (row a place s : ℕ) (slots : List (Option ℕ)) → a + place ≡ s → place < length slots →
    slice_get (cells_from head row a slots) place ≡ Some (cell_of head row s (get_or slots place None))
cell_from head row a place s [] at below = absurd (omega arith)
cell_from head row a zero s (slot_held ∷ slots) at below = let same : a ≡ s = omega arith in ap (λ (k : ℕ). Some (cell_of head row k slot_held)) same
cell_from head row a (suc place) s (slot_held ∷ slots) at below = cell_from head row (a + 1) place s slots (omega arith) (omega arith)

pub cell_at : (geo : Geometry) (row place : ℕ) → place < length geo.slots.items → slice_get (row_cells geo row) place ≡ Some (cell_of geo.head row place (get_or geo.slots.items place None))
cell_at geo row place below = cell_from geo.head row 0 place place geo.slots.items (omega arith) below

-- weights that find the byte of a missing part, both of them bytes
weights_fit : (part : Part) (other : Option Part) → Apart part other → (a b : ℕ) × (a < 256) × (b < 256) × Finds part other a b
weights_fit P None h = (1, 0, omega arith, omega arith, finds_p)
weights_fit P (Some P) h = absurd h
weights_fit P (Some Q) h = (1, 0, omega arith, omega arith, finds_p_beside_q)
weights_fit P (Some (Block k)) h = let i = has_inverse (power_of k) (power_fits k) (not_zero k) in (1, i.0, omega arith, i.1, finds_p_beside_data k i.0 i.1 i.2)
weights_fit Q None h = (0, 1, omega arith, omega arith, finds_q)
weights_fit Q (Some P) h = (0, 1, omega arith, omega arith, finds_q_beside_p)
weights_fit Q (Some Q) h = absurd h
weights_fit Q (Some (Block k)) h = (power_of k, 1, power_fits k, omega arith, finds_q_beside_data k (power_of k) refl)
weights_fit (Block k) None h = (1, 0, omega arith, omega arith, finds_data k)
weights_fit (Block k) (Some P) h = let i = has_inverse (power_of k) (power_fits k) (not_zero k) in (0, i.0, omega arith, i.1, finds_data_beside_p k i.0 i.1 i.2)
weights_fit (Block k) (Some Q) h = (1, 0, omega arith, omega arith, finds_data_beside_q k)
weights_fit (Block i) (Some (Block j)) h =
    let w = has_inverse (bit_xor (power_of i) (power_of j)) (sum_fits (power_of i) (power_of j) (power_fits i) (power_fits j)) (sum_not_zero i j h.0 h.1 h.2) in
    (product (power_of j) w.0, w.0, product_fits (power_of j) w.0 (power_fits j), w.1, finds_data_beside_data i j (product (power_of j) w.0) w.0 w.1 w.2 refl)

-- bytes that find a missing cell
pub record Found (cells : List Cell) (place : ℕ) : Type 0 where
  pub a : ℕ
  pub b : ℕ
  pub a_fits : a < 256
  pub b_fits : b < 256
  pub finds : FindsAt cells place a b

pub found : (cells : List Cell) (place : ℕ) (cell : Cell) → IsRow cells → slice_get cells place ≡ Some cell → cell.missing ≡ true → Found cells place
found cells place cell row is missing =
    let other = option_or (first_missing (take place cells)) (first_missing (drop (place + 1) cells)) in
    let w = weights_fit cell.part other (apart_in_row cells place cell other row is missing refl) in
    record { a = w.0; b = w.1; a_fits = w.2; b_fits = w.3; finds = λ column long fit. lost_is cells column place cell other w.0 w.1 row long fit is missing refl w.4 }

-- the byte of a weighed sum of two sums
weighed_is : (a b : ℕ) (p q f : ℕ → ℕ) (n : ℕ) → a < 256 → b < 256 → ((j : ℕ) → p j < 256) → ((j : ℕ) → q j < 256) →
    weighed_sum a b (field_sum (λ j. product (p j) (f j)) n) (field_sum (λ j. product (q j) (f j)) n) ≡ field_sum (λ j. product (weighed_sum a b (p j) (q j)) (f j)) n
weighed_is a b p q f n a_fits b_fits p_fits q_fits =
    ap₂ bit_xor (sum_times a (λ j. product (p j) (f j)) n a_fits) (sum_times b (λ j. product (q j) (f j)) n b_fits)
    ∙ sym (sum_xor (λ j. product a (product (p j) (f j))) (λ j. product b (product (q j) (f j))) n)
    ∙ sum_same (λ j. bit_xor (product a (product (p j) (f j))) (product b (product (q j) (f j)))) (λ j. product (weighed_sum a b (p j) (q j)) (f j)) n
    (λ j lt. ap₂ bit_xor (sym (associates a (p j) (f j) a_fits (p_fits j))) (sym (associates b (q j) (f j) b_fits (q_fits j)))
    ∙ sym (additive_left (product a (p j)) (product b (q j)) (f j) (product_fits a (p j) a_fits) (product_fits b (q j) b_fits)))

held_fits : (f : ℕ → ℕ) (n : ℕ) (slots : List (Option ℕ)) → AllByRecursion (λ slot. IfSome slot (λ i. i < n)) slots → ((i : ℕ) → i < n → f i < 256) → AllByRecursion (λ x. x < 256) (map (held f) slots)
held_fits f n [] below fit = tt
held_fits f n (slot ∷ slots) below fit = (one slot below.0, held_fits f n slots below.1 fit)
  where
    one : (slot : Option ℕ) → IfSome slot (λ i. i < n) → held f slot < 256
    one None h = omega arith
    one (Some i) h = fit i h

-- a lost byte
lost_is_sum : (cells : List Cell) (slots : List (Option ℕ)) (place : ℕ) (f : ℕ → ℕ) (n : ℕ) → Found cells place → length slots ≡ length cells → AllByRecursion (λ slot. IfSome slot (λ i. i < n)) slots →
    ((i : ℕ) → i < n → f i < 256) → lost_byte cells (map (held f) slots) place ≡ field_sum (λ j. product (lost_byte cells (unit_column j slots) place) (f j)) n
lost_is_sum cells slots place f n by long below fit =
    let p : ℕ → ℕ = λ j. known_sum in_p cells (unit_column j slots) in
    let q : ℕ → ℕ = λ j. known_sum in_q cells (unit_column j slots) in
    by.finds (map (held f) slots) (length-map slots (held f) ∙ long) (held_fits f n slots below fit)
    ∙ ap₂ (λ (s t : ℕ). weighed_sum by.a by.b s t) (known_is in_p cells slots f n p_linear below fit) (known_is in_q cells slots f n q_linear below fit)
    ∙ weighed_is by.a by.b p q f n by.a_fits by.b_fits (λ j. known_sum_fits in_p in_p_fits cells (unit_column j slots) (units_fit j slots)) (λ j. known_sum_fits in_q in_q_fits cells (unit_column j slots) (units_fit j slots))
    ∙ sum_same (λ j. product (weighed_sum by.a by.b (p j) (q j)) (f j)) (λ j. product (lost_byte cells (unit_column j slots) place) (f j)) n
    (λ j lt. ap (λ (c : ℕ). product c (f j)) (sym (by.finds (unit_column j slots) (length-map slots (unit_byte j) ∙ long) (units_fit j slots))))

-- images below the number of images
pub slots_below : (geo : Geometry) (images : ℕ) → is_shaped geo images ≡ true → AllByRecursion (λ slot. IfSome slot (λ i. i < images)) geo.slots.items
slots_below geo images shaped = recursion_from_All (λ slot. IfSome slot (λ i. i < images)) geo.slots.items (shaped_images geo images shaped)

pub slot_below : (geo : Geometry) (images place : ℕ) → is_shaped geo images ≡ true → place < length geo.slots.items → IfSome (slice_index_or geo.slots.items place None) (λ i. i < images)
slot_below geo images place shaped below = shaped_images geo images shaped place None below

-- the byte of a slot, which it holds or lost
pub found_is_sum : (geo : Geometry) (images row place : ℕ) (slot : Option ℕ) (f : ℕ → ℕ) → is_shaped geo images ≡ true → place < length geo.slots.items → slice_index_or geo.slots.items place None ≡ slot →
    ((i : ℕ) → i < images → f i < 256) →
    found_byte (row_cells geo row) (map (held f) geo.slots.items) place slot ≡ field_sum (λ j. product (found_byte (row_cells geo row) (unit_column j geo.slots.items) place slot) (f j)) images
found_is_sum geo images row place None f shaped below is fit =
    lost_is_sum (row_cells geo row) geo.slots.items place f images
    (found (row_cells geo row) place (cell_of geo.head row place (get_or geo.slots.items place None)) (row_is geo images row shaped) (cell_at geo row place below) (ap (λ (o : Option ℕ). is_none o) is))
    (sym (cells_length geo.head row 0 geo.slots.items)) (slots_below geo images shaped) fit
found_is_sum geo images row place (Some i) f shaped below is fit =
    let within : IfSome (Some i) (λ k. k < images) = subst (λ (o : Option ℕ). IfSome o (λ k. k < images)) is (slot_below geo images place shaped below) in
    get_or-map (held f) geo.slots.items place None 0 below ∙ ap (held f) is
    ∙ held_is (Some i) f images within fit
    ∙ sum_same (λ j. product (unit_byte j (Some i)) (f j)) (λ j. product (slice_index (unit_column j geo.slots.items) place) (f j)) images
    (λ j lt. ap (λ (u : ℕ). product u (f j)) (sym (get_or-map (unit_byte j) geo.slots.items place None 0 below ∙ ap (unit_byte j) is)))
