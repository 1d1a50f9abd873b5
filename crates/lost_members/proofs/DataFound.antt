-- The lost data of regions that hold what is needed.
use Rattle.std.proofs.Common.{◌≡◌, ◌≢◌, ℕ, zero, suc, ◌+◌, ◌*◌, ◌/◌, ◌<◌, ◌≤◌, List, [], ◌∷◌, length, get_or, map, refl, sym, ap, ◌∙◌, subst, arith, Option, None, Some, false, true, inl, inr, IfSome, slice_get, slice_index_or}
use Rattle.std.specs.List.{list_all}
use Rattle.std.specs.Option.{is_none, is_some}
use Rattle.std.proofs.lemmas.Bool.{cases_Bool, cases_lt, false≢true}
use Rattle.std.proofs.lemmas.List.Folds.{list_all_at}
use Rattle.std.proofs.lemmas.List.FromFn.{get_or-map-range_with_len}
use Rattle.raid_params.specs.declared.types.Cell.{Cell}
use Rattle.raid_params.specs.declared.types.Geometry.{Geometry}
use Rattle.raid_params.specs.declared.types.Head.{Head}
use Rattle.raid_params.specs.declared.types.Part.{Part}
use Rattle.raid_params.specs.declared.types.Part.TheVariants.{Block, P, Q}
use Rattle.raid_terms.specs.Cells.{cells_from, part_of, row_cells}
use Rattle.raid_terms.specs.Parity.{is_data, member_byte, member_column}
use Rattle.raid_terms.specs.Solving.{lost_byte}
use Rattle.raid_terms.specs.Volume.{byte_in}
use Rattle.pq_parity.specs.Needs.{AgreeInRows, AreWhole, HoldLostData, KeepAllBut, needs}
use Rattle.row_parity.specs.Regions.{region_column}
use Rattle.row_parity.proofs.Regions.{regions_apart}
use Rattle.lost_members.specs.Needs.{HoldData, HoldNeeded, is_data_at, is_needed}
use Rattle.lost_members.proofs.LostParts.{cell_of}
use Rattle.lost_members.proofs.NeededParts.{there_as}
use Rattle.lost_members.proofs.ReadParts.{needed_there}
use Rattle.member_regions.proofs.ColumnBytes.{map_length}
use Rattle.member_regions.proofs.Sets.{row_length}
use Rattle.member_regions.proofs.Solved.{held_byte}

-- what holds of the cell of a slot holds where its cell is asked for
cell_from : (head : Head) (row a place s : ℕ) (slots : List (Option ℕ)) (Holds : Cell → Type 0) → a + place ≡ s →
    (place < length slots → Holds (cell_of head row s (get_or slots place None))) → IfSome (slice_get (cells_from head row a slots) place) Holds
cell_from head row a place s [] Holds at h = tt
cell_from head row a zero s (held ∷ slots) Holds at h =
    let same : s ≡ a = omega arith in
    subst (λ (k : ℕ). Holds (cell_of head row k held)) same (h (omega arith))
cell_from head row a (suc place) s (held ∷ slots) Holds at h = cell_from head row (a + 1) place s slots Holds (omega arith) (λ below. h (omega arith))

pub where_cell : (geo : Geometry) (row place : ℕ) (cells : List Cell) (Holds : Cell → Type 0) → cells ≡ row_cells geo row →
    (place < length geo.slots.items → Holds (cell_of geo.head row place (get_or geo.slots.items place None))) → IfSome (slice_get cells place) Holds
where_cell geo row place cells Holds are h =
    subst (λ (cs : List Cell). IfSome (slice_get cs place) Holds) (sym are) (cell_from geo.head row 0 place place geo.slots.items Holds (omega arith) h)

-- and the other way round
from_cell : (head : Head) (row a place s : ℕ) (slots : List (Option ℕ)) (Holds : Cell → Type 0) → a + place ≡ s → place < length slots →
    IfSome (slice_get (cells_from head row a slots) place) Holds → Holds (cell_of head row s (get_or slots place None))
from_cell head row a place s [] Holds at below h = absurd (omega arith)
from_cell head row a zero s (held ∷ slots) Holds at below h =
    let same : a ≡ s = omega arith in
    subst (λ (k : ℕ). Holds (cell_of head row k held)) same h
from_cell head row a (suc place) s (held ∷ slots) Holds at below h = from_cell head row (a + 1) place s slots Holds (omega arith) (omega arith) h

pub at_cell : (geo : Geometry) (row place : ℕ) (cells : List Cell) (Holds : Cell → Type 0) → cells ≡ row_cells geo row → place < length geo.slots.items →
    IfSome (slice_get cells place) Holds → Holds (cell_of geo.head row place (get_or geo.slots.items place None))
at_cell geo row place cells Holds are below h =
    from_cell geo.head row 0 place place geo.slots.items Holds (omega arith) below (subst (λ (cs : List Cell). IfSome (slice_get cs place) Holds) are h)

needs_data : (cells : List Cell) (part : Part) → is_data part ≡ true → needs cells part ≡ true
needs_data cells (Block k) e = refl
needs_data cells P e = absurd (false≢true e)
needs_data cells Q e = absurd (false≢true e)

-- data that are there are needed
pub data_needed : (geo : Geometry) (slot t : ℕ) → is_none (get_or geo.slots.items slot None) ≡ false → is_data_at geo slot t ≡ true → is_needed geo slot t ≡ true
data_needed geo slot t there holds =
    there_as geo slot t (part_of geo.head (t / geo.head.chunk) slot) there refl
    ∙ needs_data (row_cells geo (t / geo.head.chunk)) (part_of geo.head (t / geo.head.chunk) slot) holds

pub column_byte : (f : Option ℕ → ℕ) (slots : List (Option ℕ)) (place : ℕ) → place < length slots → get_or (map f slots) place 0 ≡ f (get_or slots place None)
column_byte f [] place below = absurd (omega arith)
column_byte f (held ∷ slots) zero below = refl
column_byte f (held ∷ slots) (suc place) below = column_byte f slots place (omega arith)

-- regions that hold the needed sectors agree in them with the members
pub rows_agree : (images : List (List ℕ)) (geo : Geometry) (stride first count from n row : ℕ) (cells : List Cell) (sectors : List ℕ) → cells ≡ row_cells geo row →
    ((t : ℕ) → first + from ≤ t → t < first + from + n → t / geo.head.chunk ≡ row) → from + n ≤ count → HoldNeeded images geo stride first count sectors →
    AgreeInRows cells stride from n sectors (λ j x. member_column images geo (first + j) x)
rows_agree images geo stride first count from n row cells sectors are in_row inside hold = λ j x low high short place.
    where_cell geo row place cells
    (λ cell. cell.missing ≡ false → needs cells cell.part ≡ true →
    get_or (region_column (length cells) stride sectors j x) place 0 ≡ get_or (member_column images geo (first + j) x) place 0)
    are
    (λ below there needed. same j x low high short place below there needed)
  where
    same : (j x : ℕ) → from ≤ j → j < from + n → x < 512 → (place : ℕ) → place < length geo.slots.items → is_none (get_or geo.slots.items place None) ≡ false →
        needs cells (part_of geo.head row place) ≡ true → get_or (region_column (length cells) stride sectors j x) place 0 ≡ get_or (member_column images geo (first + j) x) place 0
    same j x low high short place below there needed =
        let at : (first + j) / geo.head.chunk ≡ row = in_row (first + j) (omega arith) (omega arith) in
        let is : is_needed geo place (first + j) ≡ true =
        there_as geo place (first + j) (part_of geo.head row place) there (ap (λ (r : ℕ). part_of geo.head r place) at)
        ∙ ap (λ (r : ℕ). needs (row_cells geo r) (part_of geo.head row place)) at ∙ ap (λ (cs : List Cell). needs cs (part_of geo.head row place)) (sym are) ∙ needed in
        let long = row_length geo row cells are in
        get_or-map-range_with_len (λ i. get_or sectors (stride * i + (512 * j + x)) 0) 0 (length cells) place place 0 (omega arith) (omega arith)
        ∙ hold place j x below (omega arith) short is
        ∙ sym (held_byte images geo (first + j) place x (get_or geo.slots.items place None) there)
        ∙ sym (column_byte (member_byte images geo.head.offset (first + j) x) geo.slots.items place below)

-- a column has a byte for each cell
pub rows_whole : (images : List (List ℕ)) (geo : Geometry) (first from n row : ℕ) (cells : List Cell) → cells ≡ row_cells geo row →
    AreWhole cells from n (λ j x. member_column images geo (first + j) x)
rows_whole images geo first from n row cells are = λ j x low high short.
    map_length (member_byte images geo.head.offset (first + j) x) geo.slots.items ∙ sym (row_length geo row cells are)

-- the needed sectors stay while lost ones are written
pub needed_kept : (images : List (List ℕ)) (geo : Geometry) (stride first count from n row : ℕ) (cells : List Cell) (old new : List ℕ) → cells ≡ row_cells geo row →
    512 * count ≤ stride → from + n ≤ count → KeepAllBut cells stride from n old new → HoldNeeded images geo stride first count old → HoldNeeded images geo stride first count new
needed_kept images geo stride first count from n row cells old new are fits inside kept hold = λ slot j x below short within needed.
    kept (stride * slot + (512 * j + x))
    (λ place. where_cell geo row place cells
    (λ cell. cell.missing ≡ true → is_data cell.part ≡ true → (i z : ℕ) → from ≤ i → i < from + n → z < 512 → stride * slot + (512 * j + x) ≢ stride * place + (512 * i + z))
    are
    (λ lies empty holds i z low high tight. regions_apart stride i slot (512 * j + x) place z (omega arith) (omega arith) tight
    (λ same. absurd (false≢true (sym (needed_there geo slot (first + j) needed) ∙ ap (λ (k : ℕ). is_none (get_or geo.slots.items k None)) same ∙ empty)))))
    ∙ hold slot j x below short within needed

-- the regions of empty slots hold the lost data of their first sectors
abbrev pub HoldFound : List (List ℕ) → Geometry → ℕ → ℕ → ℕ → List ℕ → Type 0
HoldFound images geo stride first n sectors =
    (slot j x : ℕ) → slot < length geo.slots.items → j < n → x < 512 → is_none (get_or geo.slots.items slot None) ≡ true → is_data_at geo slot (first + j) ≡ true →
    get_or sectors (stride * slot + (512 * j + x)) 0 ≡ byte_in images geo (first + j) slot x (slice_index_or geo.slots.items slot None)

none_of : (o : Option ℕ) → is_none o ≡ true → o ≡ None
none_of None e = refl
none_of (Some i) e = absurd (false≢true e)

-- sectors of different numbers are apart
sectors_apart : (stride slot place j x i z : ℕ) → 512 * i + 512 ≤ stride → j < i → x < 512 → z < 512 → stride * slot + (512 * j + x) ≢ stride * place + (512 * i + z)
sectors_apart stride slot place j x i z fits less inside short =
    elim (cases_lt slot place) [
      | inl under ↦ regions_apart stride i slot (512 * j + x) place z fits (omega arith) short (λ e. absurd (omega arith))
      | inr over ↦ elim (cases_lt place slot) [
        | inl under ↦ regions_apart stride i slot (512 * j + x) place z fits (omega arith) short (λ e. absurd (omega arith))
        | inr alike ↦ (let e : slot ≡ place = omega arith in let p : stride * slot ≡ stride * place = ap (λ (t : ℕ). stride * t) e in λ f. absurd (omega arith))
      ]
    ]

-- after the sectors of one more row
pub found_more : (images : List (List ℕ)) (geo : Geometry) (stride first count from n row m : ℕ) (cells : List Cell) (old new : List ℕ) → cells ≡ row_cells geo row →
    ((t : ℕ) → first + from ≤ t → t < first + from + n → t / geo.head.chunk ≡ row) → 512 * count ≤ stride → from + n ≤ count → from + n ≡ m →
    HoldLostData cells stride from n new (λ j x. member_column images geo (first + j) x) → KeepAllBut cells stride from n old new →
    HoldFound images geo stride first from old → HoldFound images geo stride first m new
found_more images geo stride first count from n row m cells old new are in_row fits inside upto lost kept found = λ slot j x below short within empty holds.
    elim (cases_lt j from) [
      | inl less ↦
          kept (stride * slot + (512 * j + x))
          (λ place. where_cell geo row place cells
          (λ cell. cell.missing ≡ true → is_data cell.part ≡ true → (i z : ℕ) → from ≤ i → i < from + n → z < 512 → stride * slot + (512 * j + x) ≢ stride * place + (512 * i + z))
          are
          (λ lies lacking holds i z low high tight. sectors_apart stride slot place j x i z (omega arith) (omega arith) within tight))
          ∙ found slot j x below less within empty holds
      | inr more ↦
          (let at : (first + j) / geo.head.chunk ≡ row = in_row (first + j) (omega arith) (omega arith) in
          at_cell geo row slot cells
          (λ cell. cell.missing ≡ true → is_data cell.part ≡ true → (i z : ℕ) → from ≤ i → i < from + n → z < 512 →
          get_or new (stride * slot + (512 * i + z)) 0 ≡ lost_byte cells (member_column images geo (first + i) z) slot)
          are below (lost slot) empty (ap (λ (r : ℕ). is_data (part_of geo.head r slot)) (sym at) ∙ holds) j x more (omega arith) within
          ∙ ap (λ (cs : List Cell). lost_byte cs (member_column images geo (first + j) x) slot) are
          ∙ ap (λ (r : ℕ). lost_byte (row_cells geo r) (member_column images geo (first + j) x) slot) (sym at)
          ∙ ap (λ (o : Option ℕ). byte_in images geo (first + j) slot x o) (sym (none_of (get_or geo.slots.items slot None) empty)))
    ]

-- all data
pub data_hold : (images : List (List ℕ)) (geo : Geometry) (stride first count n : ℕ) (sectors : List ℕ) → n ≡ count →
    HoldNeeded images geo stride first count sectors → HoldFound images geo stride first n sectors → HoldData images geo stride first count sectors
data_hold images geo stride first count n sectors all needed found = λ slot j x below short within holds.
    elim (cases_Bool (is_none (get_or geo.slots.items slot None))) [
      | inl empty ↦ found slot j x below (omega arith) within empty holds
      | inr there ↦ needed slot j x below short within (data_needed geo slot (first + j) there holds)
    ]

-- no sector yet
pub found_none : (images : List (List ℕ)) (geo : Geometry) (stride first n : ℕ) (sectors : List ℕ) → n ≡ 0 → HoldFound images geo stride first n sectors
found_none images geo stride first n sectors none = λ slot j x below short within empty holds. absurd (omega arith)

some_there : (o : Option ℕ) → is_some o ≡ true → is_none o ≡ false
some_there None e = absurd (false≢true e)
some_there (Some i) e = refl

-- where no slot is empty nothing is lost
pub full_there : (slots : List (Option ℕ)) (slot : ℕ) → list_all is_some slots ≡ true → slot < length slots → is_none (get_or slots slot None) ≡ false
full_there slots slot full below =
    elim (cases_Bool (is_some (get_or slots slot None))) [
      | inl there ↦ some_there (get_or slots slot None) there
      | inr empty ↦ absurd (false≢true (sym (list_all_at is_some slots slot None below empty) ∙ full))
    ]

pub found_full : (images : List (List ℕ)) (geo : Geometry) (stride first count : ℕ) (sectors : List ℕ) → list_all is_some geo.slots.items ≡ true →
    HoldNeeded images geo stride first count sectors → HoldData images geo stride first count sectors
found_full images geo stride first count sectors full needed = λ slot j x below short within holds.
    needed slot j x below short within (data_needed geo slot (first + j) (full_there geo.slots.items slot full below) holds)
