-- Sectors of the slots, one after the other.
use Rattle.std.proofs.Common.{◌≡◌, ◌≢◌, ◌*◌, ◌+◌, ◌<◌, ◌≤◌, ℕ, List, length, get_or, replicate, set, take, slice_get, slice_index, slice_index_or, IfSome, true, subst, sym, ap, ◌∙◌, arith, inl, inr}
use Rattle.std.specs.declared.option.Option.{Option}
use Rattle.std.specs.declared.option.Option.TheVariants.{None, Some}
use Rattle.std.proofs.lemmas.Bool.{cases_eq, cases_lt}
use Rattle.std.specs.Option.{is_none}
use Rattle.std.proofs.lemmas.List.FromFn.{fill_by_all}
use Rattle.std.proofs.lemmas.List.{get_or-map, length-map, get_or-replicate, get_or_past, length-replicate, get_or-set_other, get_or-set_same, get_or-take, length-take}
use Rattle.raid_params.specs.declared.types.Cell.{Cell}
use Rattle.raid_params.specs.declared.types.Geometry.{Geometry}
use Rattle.raid_layouts.proofs.Counts.{cells_length}
use Rattle.raid_terms.specs.Cells.{row_cells}
use Rattle.raid_terms.specs.Parity.{column_of}
use Rattle.raid_terms.specs.Role.{item_of}
use Rattle.raid_terms.specs.Solving.{lost_byte}
use Rattle.volume_classes.specs.Coefficients.{AreUnits, coefficient, found_byte, unit_byte, unit_column}
use Rattle.volume_classes.proofs.Columns.{cell_at}
use Rattle.volume_classes.proofs.KnownSums.{unit_here, unit_off}

-- the sectors of the first n slots, and nothing behind them
pub record AreUnitsTo (slots : List (Option ℕ)) (size n : ℕ) (sectors : List ℕ) : Type 0 where
  pub long : length sectors ≡ size
  pub made : (place image : ℕ) → place < n → image < 512 → slice_index sectors (512 * place + image) ≡ unit_byte image (slice_index_or slots place None)
  pub rest : (k : ℕ) → 512 * n ≤ k → slice_index sectors k ≡ 0

-- a byte of the sector in which one byte was set
pub byte_put : (old new : List ℕ) (place held image : ℕ) → new ≡ set old (512 * place + held) 1 → 512 * place + 512 ≤ length old → held < 512 → ((k : ℕ) → 512 * place ≤ k → slice_index old k ≡ 0) →
    slice_index new (512 * place + image) ≡ unit_byte image (Some held)
byte_put old new place held image is within small blank =
    elim (cases_eq image held) [
      | inl same ↦ ap (λ (xs : List ℕ). get_or xs (512 * place + image) 0) is
          ∙ ap (λ (i : ℕ). get_or (set old (512 * place + held) 1) (512 * place + i) 0) same
          ∙ get_or-set_same old (512 * place + held) 1 0 (omega arith) ∙ sym (ap (λ (i : ℕ). unit_byte i (Some held)) same ∙ unit_here held)
      | inr apart ↦ ap (λ (xs : List ℕ). get_or xs (512 * place + image) 0) is
          ∙ get_or-set_other old (512 * place + held) (512 * place + image) 1 0 (λ e. apart (omega (arith, e)))
          ∙ blank (512 * place + image) (omega arith) ∙ sym (unit_off image held (λ e. apart (sym e)))
    ]

-- one more slot
pub units_more : (slots : List (Option ℕ)) (size n : ℕ) (old new : List ℕ) (slot : Option ℕ) → slice_index_or slots n None ≡ slot → AreUnitsTo slots size n old → length new ≡ length old →
    ((image : ℕ) → image < 512 → slice_index new (512 * n + image) ≡ unit_byte image slot) → ((k : ℕ) → k < 512 * n → slice_index new k ≡ slice_index old k) → ((k : ℕ) → 512 * n + 512 ≤ k → slice_index new k ≡ 0) →
    AreUnitsTo slots size (n + 1) new
units_more slots size n old new slot is far same here before after = record {
  long = same ∙ far.long;
  made = λ place image below small.
      elim (cases_eq place n) [
        | inl same ↦ ap (λ (p : ℕ). slice_index new (512 * p + image)) same ∙ here image small ∙ ap (unit_byte image) (sym is) ∙ ap (λ (p : ℕ). unit_byte image (slice_index_or slots p None)) (sym same)
        | inr apart ↦ (let ne : place ≢ n = apart in let less : place < n = omega arith in before (512 * place + image) (omega arith) ∙ far.made place image less small)
      ];
  rest = λ k from. after k (omega arith);
}

-- all slots
pub units_all : (slots : List (Option ℕ)) (size : ℕ) (sectors : List ℕ) → 512 * length slots ≤ size → AreUnitsTo slots size (length slots) sectors → AreUnits slots (take (512 * length slots) sectors)
units_all slots size sectors within far = record {
  long = let e = length-take (512 * length slots) sectors in let all = far.long in omega arith;
  bytes = λ place image below small. get_or-take (512 * length slots) sectors (512 * place + image) 0 (omega arith) ∙ far.made place image below small;
}

long_none : (n : ℕ) → length (replicate {A = ℕ} n 0) ≡ n
long_none n = length-replicate {A = ℕ} n 0

pub units_none : (slots : List (Option ℕ)) (n : ℕ) → AreUnitsTo slots n 0 (replicate {A = ℕ} n 0)
units_none slots n = record {
  long = long_none n;
  made = λ place image below small. absurd (omega arith);
  rest = λ k from. elim (cases_lt k n) [
    | inl inside ↦ get_or-replicate n k 0 0 inside
    | inr past ↦ get_or_past (replicate {A = ℕ} n 0) k 0 (let e = long_none n in omega arith)
  ];
}

-- the column of a byte in the sectors
pub column_units : (slots : List (Option ℕ)) (sectors : List ℕ) (image : ℕ) → AreUnits slots sectors → image < 512 → column_of (length slots) sectors image ≡ unit_column image slots
column_units slots sectors image are small =
    sym (fill_by_all (λ i. slice_index sectors (512 * i + image)) (unit_column image slots) (length slots) 0 (length-map slots (unit_byte image))
    (λ k below. get_or-map (unit_byte image) slots k None 0 below ∙ sym (are.bytes k image below small)))

-- what is solved of it is the coefficient of an item that is lost
pub lost_coefficient : (geo : Geometry) (sectors : List ℕ) (cells : List Cell) (row item slot image : ℕ) → cells ≡ row_cells geo row → slot ≡ item_of geo.head row item → slice_index_or geo.slots.items slot None ≡ None →
    AreUnits geo.slots.items sectors → image < 512 → lost_byte cells (column_of (length cells) sectors image) slot ≡ coefficient geo row item image
lost_coefficient geo sectors cells row item slot image are at lost units small =
    ap (λ (cs : List Cell). lost_byte cs (column_of (length cs) sectors image) slot) are
    ∙ ap (λ (n : ℕ). lost_byte (row_cells geo row) (column_of n sectors image) slot) (cells_length geo.head row 0 geo.slots.items)
    ∙ ap (λ (column : List ℕ). lost_byte (row_cells geo row) column slot) (column_units geo.slots.items sectors image units small)
    ∙ sym (ap (found_byte (row_cells geo row) (unit_column image geo.slots.items) slot) lost)
    ∙ ap (λ (s : ℕ). found_byte (row_cells geo row) (unit_column image geo.slots.items) s (slice_index_or geo.slots.items s None)) at

-- and what is copied that of one that is there
pub held_coefficient : (geo : Geometry) (sectors : List ℕ) (row item slot image i : ℕ) → slot ≡ item_of geo.head row item → slot < length geo.slots.items → slice_index_or geo.slots.items slot None ≡ Some i →
    AreUnits geo.slots.items sectors → image < 512 → slice_index sectors (512 * slot + image) ≡ coefficient geo row item image
held_coefficient geo sectors row item slot image i at below held units small =
    units.bytes slot image below small
    ∙ sym (get_or-map (unit_byte image) geo.slots.items slot None 0 below)
    ∙ sym (ap (found_byte (row_cells geo row) (unit_column image geo.slots.items) slot) held)
    ∙ ap (λ (s : ℕ). found_byte (row_cells geo row) (unit_column image geo.slots.items) s (slice_index_or geo.slots.items s None)) at

-- an empty slot's cell is missing
pub missing_at : (geo : Geometry) (row place : ℕ) (cells : List Cell) → cells ≡ row_cells geo row → place < length geo.slots.items → slice_index_or geo.slots.items place None ≡ None →
    IfSome (slice_get cells place) (λ cell. cell.missing ≡ true)
missing_at geo row place cells are below lost =
    subst (λ (o : Option Cell). IfSome o (λ cell. cell.missing ≡ true)) (sym (ap (λ (cs : List Cell). slice_get cs place) are ∙ cell_at geo row place below)) (ap (λ (o : Option ℕ). is_none o) lost)
