-- Each item of a row has a coefficient that is not 0.
use Rattle.std.proofs.Common.{ℕ, zero, suc, ◌≡◌, ◌≢◌, ◌+◌, ◌<◌, ◌≤◌, Bool, true, false, cond, not, nat_eq, ◌||◌, ◌==◌, List, [], ◌∷◌, map, length, get_or, slice_index_or, count_by, IfSome, refl, sym, ap, ap₂, ◌∙◌, subst, arith, bit_xor, inl, inr}
use Rattle.std.specs.List.{AllByRecursion, range_with_len}
use Rattle.std.specs.Option.{is_none}
use Rattle.std.specs.declared.option.Option.{Option}
use Rattle.std.specs.declared.option.Option.TheVariants.{None, Some}
use Rattle.std.proofs.lemmas.Bool.{cases_eq, eq-eqb, or_right}
use Rattle.std.proofs.lemmas.List.{get_or-map, length-map}
use Rattle.std.proofs.lemmas.List.FromFn.{get_or-map-range_with_len, length-map-range_with_len}
use Rattle.std.proofs.lemmas.Option.{get_or_from_slice_get}
use Rattle.gf256.specs.Field.{power_of, product}
use Rattle.gf256.proofs.Products.{product_fits, product_zero, product_zero_left}
use Rattle.gf256.proofs.Powers.{power_fits, product_one}
use Rattle.gf256.proofs.Sums.{sum_fits, sum_self, sum_zero}
use Rattle.raid_params.specs.declared.types.Cell.{Cell}
use Rattle.raid_params.specs.declared.types.Geometry.{Geometry}
use Rattle.raid_params.specs.declared.types.Level.{Level}
use Rattle.raid_params.specs.declared.types.Level.TheVariants.{Raid0, Raid5, Raid6}
use Rattle.raid_params.specs.declared.types.Part.{Part}
use Rattle.raid_params.specs.declared.types.Part.TheVariants.{Block, P, Q}
use Rattle.raid_params.specs.declared.types.Pattern.{Pattern}
use Rattle.raid_params.specs.Size.{data_blocks, redundancy}
use Rattle.raid_params.specs.Slots.{empties}
use Rattle.raid_params.specs.Validity.{is_shaped}
use Rattle.raid_layouts.proofs.Counts.{any_counted, cells_length, count_q, number}
use Rattle.raid_layouts.proofs.Levels.{item_below, layout_of}
use Rattle.raid_layouts.proofs.Parts.{part_data, part_p, part_q}
use Rattle.raid_layouts.proofs.Shapes.{shaped_head, shaped_missing, shaped_slots}
use Rattle.raid_layouts.proofs.Solvable.{row_is}
use Rattle.raid_terms.specs.Cells.{part_of, row_cells, weight_at}
use Rattle.raid_terms.specs.Parity.{has_p, has_q, in_p, in_q, is_q, p_holds, q_holds, sum_of, IsRow}
use Rattle.raid_terms.specs.Role.{item_of, p_at, p_of, q_of, turn}
use Rattle.raid_terms.specs.Solving.{lost_byte}
use Rattle.lane_kernels.specs.Formulas.{weighed_sum}
use Rattle.row_parity.specs.Known.{no_cell}
use Rattle.row_parity.specs.Syndromes.{known_in, known_sum}
use Rattle.pq_parity.proofs.DataSums.{any_at}
use Rattle.pq_parity.proofs.Needed.{some_counted}
use Rattle.volume_classes.specs.Coefficients.{coefficient, found_byte, unit_byte, unit_column}
use Rattle.volume_classes.specs.Laws.{EachItemIsWeighed}
use Rattle.volume_classes.proofs.Columns.{Found, cell_at, cell_of, found, slot_below}
use Rattle.volume_classes.proofs.FieldSums.{zero_sum}
use Rattle.volume_classes.proofs.KnownSums.{IsLinear, p_linear, q_linear, unit_here, units_fit}
use Rattle.volume_classes.proofs.Sound.{own_solution, sum_there, there, there_long}
use Rattle.volume_classes.proofs.Spots.{IsAdditive, known_adds, p_adds, q_adds, spot, spot_here, spot_off, spot_sum, unit_is}

abbrev cell : Part → Bool → Cell
cell part missing = record { part = part; missing = missing }

-- 1 at a data block, 1 at P and a byte at Q, so that the equations hold
abbrev even_byte : ℕ → ℕ → ℕ → ℕ → ℕ → ℕ
even_byte s p q m t = bit_xor (bit_xor (spot s 1 t) (spot p 1 t)) (spot q m t)

abbrev even_column : ℕ → ℕ → ℕ → ℕ → ℕ → List ℕ
even_column s p q m n = map (even_byte s p q m) (range_with_len 0 n)

three_sum : (adds : Part → ℕ → ℕ) (cells : List Cell) (s p q m : ℕ) → IsLinear adds → IsAdditive adds → s < length cells → p < length cells → q < length cells →
    known_sum adds cells (even_column s p q m (length cells)) ≡
    bit_xor (bit_xor (known_in adds (get_or cells s no_cell) 1) (known_in adds (get_or cells p no_cell) 1)) (known_in adds (get_or cells q no_cell) m)
three_sum adds cells s p q m linear additive s_in p_in q_in =
    known_adds adds cells (λ t. bit_xor (spot s 1 t) (spot p 1 t)) (spot q m) 0 additive
    ∙ ap₂ bit_xor (known_adds adds cells (spot s 1) (spot p 1) 0 additive ∙ ap₂ bit_xor (spot_sum adds cells s 1 linear s_in) (spot_sum adds cells p 1 linear p_in)) (spot_sum adds cells q m linear q_in)

-- where the cells of a data block that is missing, of P and of another one stand
record Places (cells : List Cell) (s p q k m : ℕ) (part : Part) (p_missing q_missing : Bool) : Type 0 where
  row : IsRow cells
  s_in : s < length cells
  p_in : p < length cells
  q_in : q < length cells
  not_p : s ≢ p
  not_q : s ≢ q
  s_is : get_or cells s no_cell ≡ cell (Block k) true
  p_is : get_or cells p no_cell ≡ cell P p_missing
  q_is : get_or cells q no_cell ≡ cell part q_missing
  quiet : in_p part m ≡ 0
  even : has_q cells ≡ true → bit_xor (bit_xor (in_q (Block k) 1) (in_q P 1)) (in_q part m) ≡ 0
  fits : m < 256
  some : 1 ≤ count_by (λ c. c.missing) cells

there_at : (cells : List Cell) (t : ℕ) (part : Part) (missing : Bool) → t < length cells → get_or cells t no_cell ≡ cell part missing → get_or (there cells) t no_cell ≡ cell part false
there_at cells t part missing below is =
    get_or-map (λ (c : Cell). cell c.part false) cells t no_cell no_cell below ∙ ap (λ (c : Cell). cell c.part false) is

sum_even : {cells : List Cell} {s p q k m : ℕ} {part : Part} {p_missing q_missing : Bool} (adds : Part → ℕ → ℕ) → IsLinear adds → IsAdditive adds → Places cells s p q k m part p_missing q_missing →
    sum_of adds cells (even_column s p q m (length cells)) ≡ bit_xor (bit_xor (adds (Block k) 1) (adds P 1)) (adds part m)
sum_even {cells = cells} {s = s} {p = p} {q = q} {k = k} {m = m} {part = part} {p_missing = p_missing} {q_missing = q_missing} adds linear additive places =
    let long = there_long cells in
    let s_in = places.s_in in
    let p_in = places.p_in in
    let q_in = places.q_in in
    sum_there adds cells (even_column s p q m (length cells))
    ∙ ap (λ (n : ℕ). known_sum adds (there cells) (even_column s p q m n)) (sym (there_long cells))
    ∙ three_sum adds (there cells) s p q m linear additive (omega arith) (omega arith) (omega arith)
    ∙ ap₂ bit_xor
    (ap₂ bit_xor (ap (λ (c : Cell). known_in adds c 1) (there_at cells s (Block k) true s_in places.s_is)) (ap (λ (c : Cell). known_in adds c 1) (there_at cells p P p_missing p_in places.p_is)))
    (ap (λ (c : Cell). known_in adds c m) (there_at cells q part q_missing q_in places.q_is))

p_even : {cells : List Cell} {s p q k m : ℕ} {part : Part} {p_missing q_missing : Bool} → Places cells s p q k m part p_missing q_missing → p_holds cells (even_column s p q m (length cells)) ≡ true
p_even {cells = cells} {s = s} {p = p} {q = q} {k = k} {m = m} {part = part} places =
    or_right (not (has_p cells)) (nat_eq (sum_of in_p cells (even_column s p q m (length cells))) 0)
    (eq-eqb (sum_of in_p cells (even_column s p q m (length cells))) 0 (sum_even in_p p_linear p_adds places ∙ ap (bit_xor 0) places.quiet))

q_even : {cells : List Cell} {s p q k m : ℕ} {part : Part} {p_missing q_missing : Bool} → Places cells s p q k m part p_missing q_missing → q_holds cells (even_column s p q m (length cells)) ≡ true
q_even {cells = cells} {s = s} {p = p} {q = q} {k = k} {m = m} {part = part} places = by (has_q cells) refl
  where
    by : (b : Bool) → has_q cells ≡ b → (not b || nat_eq (sum_of in_q cells (even_column s p q m (length cells))) 0) ≡ true
    by false is = refl
    by true is = eq-eqb (sum_of in_q cells (even_column s p q m (length cells))) 0 (sum_even in_q q_linear q_adds places ∙ places.even is)

spot_fits : (s byte t : ℕ) → byte < 256 → spot s byte t < 256
spot_fits s byte t fit = by (t == s)
  where
    by : (b : Bool) → cond b byte 0 < 256
    by true = fit
    by false = omega arith

map_fits : (g : ℕ → ℕ) (a n : ℕ) → ((t : ℕ) → g t < 256) → AllByRecursion (λ x. x < 256) (map g (range_with_len a n))
map_fits g a zero fit = tt
map_fits g a (suc n) fit = (fit a, map_fits g (a + 1) n fit)

-- the lost byte of the data block is 1
even_one : {cells : List Cell} {s p q k m : ℕ} {part : Part} {p_missing q_missing : Bool} → Places cells s p q k m part p_missing q_missing → lost_byte cells (even_column s p q m (length cells)) s ≡ 1
even_one {cells = cells} {s = s} {p = p} {q = q} {k = k} {m = m} {part = part} places =
    own_solution cells (even_column s p q m (length cells)) s places.row places.some (length-map-range_with_len (even_byte s p q m) 0 (length cells))
    (map_fits (even_byte s p q m) 0 (length cells) (λ t. sum_fits (bit_xor (spot s 1 t) (spot p 1 t)) (spot q m t) (sum_fits (spot s 1 t) (spot p 1 t) (spot_fits s 1 t (omega arith)) (spot_fits p 1 t (omega arith))) (spot_fits q m t places.fits)))
    (p_even places) (q_even places)
    ∙ get_or-map-range_with_len (even_byte s p q m) 0 (length cells) s s 0 places.s_in (omega arith)
    ∙ ap₂ bit_xor (ap₂ bit_xor (spot_here s 1 s refl) (spot_off p 1 s places.not_p)) (spot_off q m s places.not_q)

-- so it is the weighed sum of what P and the other one add, where they are there
even_weighed : {cells : List Cell} {s p q k m : ℕ} {part : Part} {p_missing q_missing : Bool} (by : Found cells s) → Places cells s p q k m part p_missing q_missing →
    weighed_sum by.a by.b (bit_xor (bit_xor 0 (known_in in_p (cell P p_missing) 1)) (known_in in_p (cell part q_missing) m)) (bit_xor (bit_xor 0 (known_in in_q (cell P p_missing) 1)) (known_in in_q (cell part q_missing) m)) ≡ 1
even_weighed {cells = cells} {s = s} {p = p} {q = q} {k = k} {m = m} {part = part} {p_missing = p_missing} {q_missing = q_missing} by places =
    sym (ap₂ (λ (x y : ℕ). weighed_sum by.a by.b x y) (sum in_p p_linear p_adds) (sum in_q q_linear q_adds))
    ∙ sym (by.finds (even_column s p q m (length cells)) (length-map-range_with_len (even_byte s p q m) 0 (length cells))
    (map_fits (even_byte s p q m) 0 (length cells) (λ t. sum_fits (bit_xor (spot s 1 t) (spot p 1 t)) (spot q m t) (sum_fits (spot s 1 t) (spot p 1 t) (spot_fits s 1 t (omega arith)) (spot_fits p 1 t (omega arith))) (spot_fits q m t places.fits))))
    ∙ even_one places
  where
    sum : (adds : Part → ℕ → ℕ) → IsLinear adds → IsAdditive adds → known_sum adds cells (even_column s p q m (length cells)) ≡ bit_xor (bit_xor 0 (known_in adds (cell P p_missing) 1)) (known_in adds (cell part q_missing) m)
    sum adds linear additive =
        three_sum adds cells s p q m linear additive places.s_in places.p_in places.q_in
        ∙ ap₂ bit_xor (ap₂ bit_xor (ap (λ (c : Cell). known_in adds c 1) places.s_is) (ap (λ (c : Cell). known_in adds c 1) places.p_is)) (ap (λ (c : Cell). known_in adds c m) places.q_is)

-- some image has a coefficient that is not 0
abbrev IsWeighed : Geometry → ℕ → ℕ → ℕ → Type 0
IsWeighed geo images row item = (image : ℕ) × (image < images) × (coefficient geo row item image ≢ 0)

one_not_zero : (x : ℕ) → x ≡ 1 → x ≡ 0 → ⊥
one_not_zero x one none = absurd (omega arith)

-- an item that is there
weighed_there : (geo : Geometry) (images row item i : ℕ) → is_shaped geo images ≡ true → item < data_blocks geo.head → item_of geo.head row item < length geo.slots.items →
    slice_index_or geo.slots.items (item_of geo.head row item) None ≡ Some i → IsWeighed geo images row item
weighed_there geo images row item i shaped few below is = (
  i,
  subst (λ (o : Option ℕ). IfSome o (λ k. k < images)) is (slot_below geo images (item_of geo.head row item) shaped below),
  one_not_zero (coefficient geo row item i)
      (ap (found_byte (row_cells geo row) (unit_column i geo.slots.items) (item_of geo.head row item)) is
      ∙ get_or-map (unit_byte i) geo.slots.items (item_of geo.head row item) None 0 below ∙ ap (unit_byte i) is ∙ unit_here i),
)

-- what the image in slot t adds, to an item that is lost
coefficient_at : (geo : Geometry) (images row item t i : ℕ) (part : Part) → (by : Found (row_cells geo row) (item_of geo.head row item)) → is_shaped geo images ≡ true →
    slice_index_or geo.slots.items (item_of geo.head row item) None ≡ None → t < length geo.slots.items → slice_index_or geo.slots.items t None ≡ Some i → part_of geo.head row t ≡ part →
    coefficient geo row item i ≡ weighed_sum by.a by.b (in_p part 1) (in_q part 1)
coefficient_at geo images row item t i part by shaped lost below is part_is =
    ap (found_byte (row_cells geo row) (unit_column i geo.slots.items) (item_of geo.head row item)) lost
    ∙ by.finds (unit_column i geo.slots.items) (length-map geo.slots.items (unit_byte i) ∙ sym long) (units_fit i geo.slots.items)
    ∙ ap₂ (λ (x y : ℕ). weighed_sum by.a by.b x y) (sum in_p p_linear) (sum in_q q_linear)
  where
    long : length (row_cells geo row) ≡ length geo.slots.items
    long = cells_length geo.head row 0 geo.slots.items

    sum : (adds : Part → ℕ → ℕ) → IsLinear adds → known_sum adds (row_cells geo row) (unit_column i geo.slots.items) ≡ adds part 1
    sum adds linear =
        ap (known_sum adds (row_cells geo row)) (unit_is geo images i t shaped below is ∙ ap (λ (n : ℕ). map (spot t 1) (range_with_len 0 n)) (sym long))
        ∙ spot_sum adds (row_cells geo row) t 1 linear (let e = long in omega arith)
        ∙ ap (λ (c : Cell). known_in adds c 1)
        (get_or_from_slice_get (row_cells geo row) t (cell_of geo.head row t (get_or geo.slots.items t None)) no_cell (cell_at geo row t below)
        ∙ ap₂ (λ (x : Part) (o : Option ℕ). cell x (is_none o)) part_is is)

-- weights that give 1 are not both 0
no_weights : (a b m : ℕ) → b < 256 → weighed_sum a b 1 0 ≡ 0 → weighed_sum a b 0 1 ≡ 0 → weighed_sum a b 1 m ≡ 1 → ⊥
no_weights a b m fit by_p by_q one =
    let a_none : product a 1 ≡ 0 = sym (ap (bit_xor (product a 1)) (product_zero b) ∙ sum_zero (product a 1)) ∙ by_p in
    let b_none : b ≡ 0 = sym (ap (λ (x : ℕ). bit_xor x (product b 1)) (product_zero a) ∙ zero_sum (product b 1) ∙ product_one b fit) ∙ by_q in
    one_not_zero (weighed_sum a b 1 m) one (ap₂ bit_xor a_none (ap (λ (x : ℕ). product x m) b_none ∙ product_zero_left m))

no_weight : (a b m : ℕ) → b < 256 → weighed_sum a b 0 1 ≡ 0 → weighed_sum a b 0 m ≡ 1 → ⊥
no_weight a b m fit by_q one =
    let b_none : b ≡ 0 = sym (ap (λ (x : ℕ). bit_xor x (product b 1)) (product_zero a) ∙ zero_sum (product b 1) ∙ product_one b fit) ∙ by_q in
    one_not_zero (weighed_sum a b 0 m) one (ap₂ bit_xor (product_zero a) (ap (λ (x : ℕ). product x m) b_none ∙ product_zero_left m))

nothing : (a b : ℕ) → weighed_sum a b 0 0 ≡ 1 → ⊥
nothing a b one = one_not_zero (weighed_sum a b 0 0) one (ap₂ bit_xor (product_zero a) (product_zero b))

-- an empty slot is counted
empty_counted : (slots : List (Option ℕ)) (s : ℕ) → s < length slots → get_or slots s None ≡ None → 1 ≤ empties slots
unfolding empties
empty_counted [] s below is = absurd (omega arith)
empty_counted (None ∷ slots) s below is = omega arith
empty_counted (Some i ∷ slots) zero below is = absurd (let e : Some i ≡ None = is in cc)
empty_counted (Some i ∷ slots) (suc s) below is = empty_counted slots s (omega arith) is

-- a level without P survives no loss
no_parity : (level : Level) (pattern : Pattern) (n row : ℕ) → p_at level pattern n row ≡ None → redundancy level ≡ 0
no_parity Raid0 pattern n row e = refl
no_parity Raid5 pattern n row e = absurd (cc)
no_parity Raid6 pattern n row e = absurd (cc)

-- the cell of a slot, by its part and what the slot holds
cell_is : (geo : Geometry) (row t : ℕ) (part : Part) (o : Option ℕ) → t < length geo.slots.items → part_of geo.head row t ≡ part → slice_index_or geo.slots.items t None ≡ o →
    get_or (row_cells geo row) t no_cell ≡ cell part (is_none o)
cell_is geo row t part o below part_is is =
    get_or_from_slice_get (row_cells geo row) t (cell_of geo.head row t (get_or geo.slots.items t None)) no_cell (cell_at geo row t below)
    ∙ ap₂ (λ (x : Part) (k : Option ℕ). cell x (is_none k)) part_is is

-- an item that is lost, with P and Q in its row
record LostItem (geo : Geometry) (images row item : ℕ) : Type 0 where
  shaped : is_shaped geo images ≡ true
  few : item < data_blocks geo.head
  below : item_of geo.head row item < length geo.slots.items
  lost : slice_index_or geo.slots.items (item_of geo.head row item) None ≡ None

weight_of : Geometry → ℕ → ℕ → ℕ
weight_of geo row item = weight_at geo.head.level geo.head row (item_of geo.head row item)

in_row : (geo : Geometry) (row t : ℕ) → t < length geo.slots.items → t < length (row_cells geo row)
in_row geo row t below = let long = cells_length geo.head row 0 geo.slots.items in omega arith

lost_found : {geo : Geometry} {images row item : ℕ} → LostItem geo images row item → Found (row_cells geo row) (item_of geo.head row item)
lost_found {geo = geo} {images = images} {row = row} {item = item} it =
    found (row_cells geo row) (item_of geo.head row item) (cell_of geo.head row (item_of geo.head row item) (get_or geo.slots.items (item_of geo.head row item) None)) (row_is geo images row it.shaped)
    (cell_at geo row (item_of geo.head row item) it.below) (ap (λ (o : Option ℕ). is_none o) it.lost)

places_of : {geo : Geometry} {images row item : ℕ} (it : LostItem geo images row item) (p q m : ℕ) (part : Part) (p_held q_held : Option ℕ) → p < length geo.slots.items → q < length geo.slots.items →
    item_of geo.head row item ≢ p → item_of geo.head row item ≢ q → part_of geo.head row p ≡ P → part_of geo.head row q ≡ part → slice_index_or geo.slots.items p None ≡ p_held → slice_index_or geo.slots.items q None ≡ q_held →
    in_p part m ≡ 0 → (has_q (row_cells geo row) ≡ true → bit_xor (bit_xor (in_q (Block (weight_of geo row item)) 1) (in_q P 1)) (in_q part m) ≡ 0) → m < 256 →
    Places (row_cells geo row) (item_of geo.head row item) p q (weight_of geo row item) m part (is_none p_held) (is_none q_held)
unfolding weight_of
places_of {geo = geo} {images = images} {row = row} {item = item} it p q m part p_held q_held p_in q_in not_p not_q p_part q_part p_is q_is quiet even fits =
    let s_is = cell_is geo row (item_of geo.head row item) (Block (weight_at geo.head.level geo.head row (item_of geo.head row item))) None it.below
    (part_data geo.head row (item_of geo.head row item) (shaped_head geo images it.shaped) (item, (it.few, refl))) it.lost in
    record {
      row = row_is geo images row it.shaped;
      s_in = in_row geo row (item_of geo.head row item) it.below;
      p_in = in_row geo row p p_in;
      q_in = in_row geo row q q_in;
      not_p = not_p;
      not_q = not_q;
      s_is = s_is;
      p_is = cell_is geo row p P p_held p_in p_part p_is;
      q_is = cell_is geo row q part q_held q_in q_part q_is;
      quiet = quiet;
      even = even;
      fits = fits;
      some = some_counted (λ c. c.missing) (row_cells geo row) (any_at (λ c. c.missing) (row_cells geo row) (item_of geo.head row item) (in_row geo row (item_of geo.head row item) it.below) (ap (λ (c : Cell). c.missing) s_is));
    }

image_below : (geo : Geometry) (images t i : ℕ) → is_shaped geo images ≡ true → t < length geo.slots.items → slice_index_or geo.slots.items t None ≡ Some i → i < images
image_below geo images t i shaped below is = subst (λ (o : Option ℕ). IfSome o (λ k. k < images)) is (slot_below geo images t shaped below)

-- at level 5 P tells
by_p_alone : {geo : Geometry} {images row item : ℕ} (it : LostItem geo images row item) (p : ℕ) (held : Option ℕ) → p < length geo.slots.items → slice_index_or geo.slots.items p None ≡ held → part_of geo.head row p ≡ P →
    Places (row_cells geo row) (item_of geo.head row item) p p (weight_of geo row item) 0 P (is_none held) (is_none held) → IsWeighed geo images row item
by_p_alone {geo = geo} {images = images} {row = row} {item = item} it p None p_in is part places = absurd (nothing (lost_found it).a (lost_found it).b (even_weighed (lost_found it) places))
by_p_alone {geo = geo} {images = images} {row = row} {item = item} it p (Some i) p_in is part places = (
  i,
  image_below geo images p i it.shaped p_in is,
  one_not_zero (coefficient geo row item i) (coefficient_at geo images row item p i P (lost_found it) it.shaped it.lost p_in is part ∙ even_weighed (lost_found it) places),
)

-- at level 6 P or Q tells
by_both : {geo : Geometry} {images row item : ℕ} (it : LostItem geo images row item) (p q m : ℕ) (p_held q_held : Option ℕ) → p < length geo.slots.items → q < length geo.slots.items →
    slice_index_or geo.slots.items p None ≡ p_held → slice_index_or geo.slots.items q None ≡ q_held → part_of geo.head row p ≡ P → part_of geo.head row q ≡ Q →
    Places (row_cells geo row) (item_of geo.head row item) p q (weight_of geo row item) m Q (is_none p_held) (is_none q_held) → IsWeighed geo images row item
by_both {geo = geo} {images = images} {row = row} {item = item} it p q m None None p_in q_in p_is q_is p_part q_part places = absurd (nothing (lost_found it).a (lost_found it).b (even_weighed (lost_found it) places))
by_both {geo = geo} {images = images} {row = row} {item = item} it p q m (Some i) None p_in q_in p_is q_is p_part q_part places = (
  i,
  image_below geo images p i it.shaped p_in p_is,
  one_not_zero (coefficient geo row item i) (coefficient_at geo images row item p i P (lost_found it) it.shaped it.lost p_in p_is p_part ∙ even_weighed (lost_found it) places),
)
by_both {geo = geo} {images = images} {row = row} {item = item} it p q m None (Some j) p_in q_in p_is q_is p_part q_part places = (
  j,
  image_below geo images q j it.shaped q_in q_is,
  λ none. no_weight (lost_found it).a (lost_found it).b m (lost_found it).b_fits (sym (coefficient_at geo images row item q j Q (lost_found it) it.shaped it.lost q_in q_is q_part) ∙ none)
      (sym (ap (weighed_sum (lost_found it).a (lost_found it).b 0) (zero_sum m)) ∙ even_weighed (lost_found it) places),
)
by_both {geo = geo} {images = images} {row = row} {item = item} it p q m (Some i) (Some j) p_in q_in p_is q_is p_part q_part places =
    elim (cases_eq (coefficient geo row item i) 0) [
      | inr some ↦ (i, image_below geo images p i it.shaped p_in p_is, some)
      | inl by_p ↦ (
        j,
        image_below geo images q j it.shaped q_in q_is,
        λ none. no_weights (lost_found it).a (lost_found it).b m (lost_found it).b_fits
            (sym (coefficient_at geo images row item p i P (lost_found it) it.shaped it.lost p_in p_is p_part) ∙ by_p)
            (sym (coefficient_at geo images row item q j Q (lost_found it) it.shaped it.lost q_in q_is q_part) ∙ none)
            (sym (ap (weighed_sum (lost_found it).a (lost_found it).b 1) (zero_sum m)) ∙ even_weighed (lost_found it) places),
      )
    ]

-- no Q in the row
no_q : (geo : Geometry) (images row : ℕ) → is_shaped geo images ≡ true → q_of geo.head row ≡ None → has_q (row_cells geo row) ≡ true → ⊥
no_q geo images row shaped none has =
    let some = any_counted (λ c. is_q c.part) (row_cells geo row) has in
    let count = count_q geo.head row geo.slots.items (shaped_head geo images shaped) (shaped_slots geo images shaped) in
    let e : number (q_of geo.head row) ≡ 0 = ap number none in
    omega arith

lost_item : {geo : Geometry} {images row item : ℕ} (it : LostItem geo images row item) (p_place q_place : Option ℕ) → p_of geo.head row ≡ p_place → q_of geo.head row ≡ q_place → IsWeighed geo images row item
lost_item {geo = geo} {images = images} {row = row} {item = item} it None q_place p_is q_is =
    let none = no_parity geo.head.level geo.head.pattern geo.head.members (turn geo.head row) p_is in
    let few = shaped_missing geo images it.shaped in
    let one = empty_counted geo.slots.items (item_of geo.head row item) it.below it.lost in
    absurd (omega arith)
lost_item {geo = geo} {images = images} {row = row} {item = item} it (Some p) None p_is q_is =
    let valid = shaped_head geo images it.shaped in
    let long = shaped_slots geo images it.shaped in
    let layout = layout_of geo.head row valid in
    let p_in : p < length geo.slots.items = (let lt = layout.p_in p p_is in omega arith) in
    let not_p : item_of geo.head row item ≢ p = λ e. layout.not_p item it.few (p_is ∙ ap (λ (t : ℕ). Some t) (sym e)) in
    let part = part_p geo.head row p p_is in
    let held = slice_index_or geo.slots.items p None in
    by_p_alone it p (slice_index_or geo.slots.items p None) p_in refl part
    (places_of it p p 0 P (slice_index_or geo.slots.items p None) (slice_index_or geo.slots.items p None) p_in p_in not_p not_p part part refl refl refl (λ has. absurd (no_q geo images row it.shaped q_is has)) (omega arith))
lost_item {geo = geo} {images = images} {row = row} {item = item} it (Some p) (Some q) p_is q_is =
    let valid = shaped_head geo images it.shaped in
    let long = shaped_slots geo images it.shaped in
    let layout = layout_of geo.head row valid in
    let p_in : p < length geo.slots.items = (let lt = layout.p_in p p_is in omega arith) in
    let q_in : q < length geo.slots.items = (let lt = layout.q_in q q_is in omega arith) in
    let not_p : item_of geo.head row item ≢ p = λ e. layout.not_p item it.few (p_is ∙ ap (λ (t : ℕ). Some t) (sym e)) in
    let not_q : item_of geo.head row item ≢ q = λ e. layout.not_q item it.few (q_is ∙ ap (λ (t : ℕ). Some t) (sym e)) in
    let m = in_q (Block (weight_of geo row item)) 1 in
    by_both it p q (in_q (Block (weight_of geo row item)) 1) (slice_index_or geo.slots.items p None) (slice_index_or geo.slots.items q None) p_in q_in refl refl (part_p geo.head row p p_is) (part_q geo.head row q valid q_is)
    (places_of it p q (in_q (Block (weight_of geo row item)) 1) Q (slice_index_or geo.slots.items p None) (slice_index_or geo.slots.items q None) p_in q_in not_p not_q (part_p geo.head row p p_is) (part_q geo.head row q valid q_is) refl refl refl
    (λ has. ap (λ (x : ℕ). bit_xor x (in_q (Block (weight_of geo row item)) 1)) (sum_zero (in_q (Block (weight_of geo row item)) 1)) ∙ sum_self (in_q (Block (weight_of geo row item)) 1))
    (product_fits (power_of (weight_of geo row item)) 1 (power_fits (weight_of geo row item))))

pub each_item : EachItemIsWeighed
each_item geo images row item shaped few = by (slice_index_or geo.slots.items (item_of geo.head row item) None) refl
  where
    below : item_of geo.head row item < length geo.slots.items
    below =
        let lt = item_below geo.head row item (shaped_head geo images shaped) few in
        let long = shaped_slots geo images shaped in
        omega arith

    by : (o : Option ℕ) → slice_index_or geo.slots.items (item_of geo.head row item) None ≡ o → IsWeighed geo images row item
    by (Some i) is = weighed_there geo images row item i shaped few below is
    by None is = lost_item (record { shaped = shaped; few = few; below = below; lost = is }) (p_of geo.head row) (q_of geo.head row) refl refl
