-- The lost parity of regions that hold all data.
use Rattle.std.proofs.Common.{◌≡◌, ◌≢◌, ℕ, ◌+◌, ◌*◌, ◌/◌, ◌<◌, ◌≤◌, Bool, cond, List, length, get_or, not, refl, sym, ap, ◌∙◌, arith, Option, None, Some, false, true, inl, inr, IfSome, slice_get, slice_index_or}
use Rattle.std.specs.Option.{is_none}
use Rattle.std.proofs.lemmas.Bool.{cases_lt, false≢true}
use Rattle.raid_params.specs.declared.types.Cell.{Cell}
use Rattle.raid_params.specs.declared.types.Geometry.{Geometry}
use Rattle.raid_terms.specs.Cells.{part_of, row_cells}
use Rattle.raid_terms.specs.Parity.{is_data, member_byte, member_column}
use Rattle.raid_terms.specs.Solving.{lost_byte}
use Rattle.raid_terms.specs.Volume.{byte_in}
use Rattle.pq_parity.specs.DataThere.{HoldAllData, HoldLostAt}
use Rattle.row_parity.specs.Known.{no_cell}
use Rattle.row_parity.specs.Regions.{KeepOthers}
use Rattle.row_parity.proofs.Regions.{cell_there, regions_apart}
use Rattle.pq_parity.proofs.RowSteps.{rows_apart}
use Rattle.lost_members.specs.Needs.{HoldData, is_data_at}
use Rattle.member_regions.specs.Regions.{HoldSlot}
use Rattle.lost_members.proofs.DataFound.{at_cell, column_byte, where_cell}
use Rattle.member_regions.proofs.Sets.{row_length}

-- a byte of a member, as the columns have it
byte_is : (images : List (List ℕ)) (geo : Geometry) (t x row place : ℕ) (cells : List Cell) → cells ≡ row_cells geo row → t / geo.head.chunk ≡ row → place < length geo.slots.items →
    byte_in images geo t place x (get_or geo.slots.items place None)
    ≡ cond (is_none (get_or geo.slots.items place None)) (lost_byte cells (member_column images geo t x) place) (get_or (member_column images geo t x) place 0)
byte_is images geo t x row place cells are at below = by (get_or geo.slots.items place None) refl
  where
    by : (held : Option ℕ) → get_or geo.slots.items place None ≡ held →
        byte_in images geo t place x held ≡ cond (is_none held) (lost_byte cells (member_column images geo t x) place) (get_or (member_column images geo t x) place 0)
    by None is =
        ap (λ (r : ℕ). lost_byte (row_cells geo r) (member_column images geo t x) place) at
        ∙ ap (λ (cs : List Cell). lost_byte cs (member_column images geo t x) place) (sym are)
    by (Some i) is =
        sym (column_byte (member_byte images geo.head.offset t x) geo.slots.items place below
        ∙ ap (λ (held : Option ℕ). member_byte images geo.head.offset t x held) is)

-- regions that hold the data hold those of the columns
pub row_data : (images : List (List ℕ)) (geo : Geometry) (stride first count from n row : ℕ) (cells : List Cell) (sectors : List ℕ) → cells ≡ row_cells geo row →
    ((t : ℕ) → first + from ≤ t → t < first + from + n → t / geo.head.chunk ≡ row) → from + n ≤ count → HoldData images geo stride first count sectors →
    HoldAllData cells stride from n sectors (λ j x. member_column images geo (first + j) x)
row_data images geo stride first count from n row cells sectors are in_row inside hold = λ place.
    where_cell geo row place cells
    (λ cell. is_data cell.part ≡ true → (j x : ℕ) → from ≤ j → j < from + n → x < 512 →
    get_or sectors (stride * place + (512 * j + x)) 0 ≡ cond cell.missing (lost_byte cells (member_column images geo (first + j) x) place) (get_or (member_column images geo (first + j) x) place 0))
    are
    (λ below holds j x low high short.
    let at : (first + j) / geo.head.chunk ≡ row = in_row (first + j) (omega arith) (omega arith) in
    hold place j x below (omega arith) short (ap (λ (r : ℕ). is_data (part_of geo.head r place)) at ∙ holds)
    ∙ byte_is images geo (first + j) x row place cells are at below)

-- where the block of the slot is parity its bytes are apart from data
data_apart : (geo : Geometry) (stride first from n row slot place j x i z : ℕ) → ((t : ℕ) → first + from ≤ t → t < first + from + n → t / geo.head.chunk ≡ row) → is_data (part_of geo.head row slot) ≡ false →
    512 * i + 512 ≤ stride → 512 * j + 512 ≤ stride → from ≤ i → i < from + n → x < 512 → z < 512 → is_data_at geo place (first + j) ≡ true → stride * place + (512 * j + x) ≢ stride * slot + (512 * i + z)
data_apart geo stride first from n row slot place j x i z in_row parity fits also low high short tight holds =
    elim (cases_lt j i) [
      | inl less ↦ rows_apart stride j i place slot x z also fits short tight (λ e. absurd (omega arith))
      | inr not_less ↦ elim (cases_lt i j) [
        | inl more ↦ rows_apart stride j i place slot x z also fits short tight (λ e. absurd (omega arith))
        | inr not_more ↦ regions_apart stride i place (512 * j + x) slot z fits (omega arith) tight
            (λ same.
            let number : first + j ≡ first + i = omega arith in
            let at : (first + j) / geo.head.chunk ≡ row = ap (λ (t : ℕ). t / geo.head.chunk) number ∙ in_row (first + i) (omega arith) (omega arith) in
            false≢true (sym parity ∙ ap (λ (s : ℕ). is_data (part_of geo.head row s)) (sym same) ∙ ap (λ (r : ℕ). is_data (part_of geo.head r place)) (sym at) ∙ holds))
      ]
    ]

-- the data stay while parity is written
pub data_kept : (images : List (List ℕ)) (geo : Geometry) (stride first count from n row slot : ℕ) (old new : List ℕ) →
    ((t : ℕ) → first + from ≤ t → t < first + from + n → t / geo.head.chunk ≡ row) → is_data (part_of geo.head row slot) ≡ false → 512 * count ≤ stride → from + n ≤ count →
    KeepOthers stride from n slot old new → HoldData images geo stride first count old → HoldData images geo stride first count new
data_kept images geo stride first count from n row slot old new in_row parity fits inside kept hold = λ place j x below short within holds.
    kept (stride * place + (512 * j + x))
    (λ i z low high tight. data_apart geo stride first from n row slot place j x i z in_row parity (omega arith) (omega arith) low high within tight holds)
    ∙ hold place j x below short within holds

-- the region of an empty slot after the sectors of one more row, which are parity
pub parity_more : (images : List (List ℕ)) (geo : Geometry) (stride first count from n row m slot : ℕ) (cells : List Cell) (old new : List ℕ) → cells ≡ row_cells geo row →
    ((t : ℕ) → first + from ≤ t → t < first + from + n → t / geo.head.chunk ≡ row) → 512 * count ≤ stride → from + n ≤ count → from + n ≡ m → slice_index_or geo.slots.items slot None ≡ None →
    HoldLostAt cells stride from n slot new (λ j x. member_column images geo (first + j) x) → KeepOthers stride from n slot old new →
    HoldSlot images geo stride first from slot old → HoldSlot images geo stride first m slot new
parity_more images geo stride first count from n row m slot cells old new are in_row fits inside upto empty lost kept held = λ j x short within.
    elim (cases_lt j from) [
      | inl less ↦
          kept (stride * slot + (512 * j + x)) (λ i z low high tight. rows_apart stride j i slot slot x z (omega arith) (omega arith) within tight (λ e. absurd (omega arith)))
          ∙ held j x less within
      | inr more ↦
          (let at : (first + j) / geo.head.chunk ≡ row = in_row (first + j) (omega arith) (omega arith) in
          lost j x more (omega arith) within
          ∙ ap (λ (cs : List Cell). lost_byte cs (member_column images geo (first + j) x) slot) are
          ∙ ap (λ (r : ℕ). lost_byte (row_cells geo r) (member_column images geo (first + j) x) slot) (sym at)
          ∙ ap (λ (o : Option ℕ). byte_in images geo (first + j) slot x o) (sym empty))
    ]

-- or data
pub data_more : (images : List (List ℕ)) (geo : Geometry) (stride first count from n row m slot : ℕ) (sectors : List ℕ) → ((t : ℕ) → first + from ≤ t → t < first + from + n → t / geo.head.chunk ≡ row) →
    from + n ≤ count → from + n ≡ m → slot < length geo.slots.items → is_data (part_of geo.head row slot) ≡ true → HoldData images geo stride first count sectors →
    HoldSlot images geo stride first from slot sectors → HoldSlot images geo stride first m slot sectors
data_more images geo stride first count from n row m slot sectors in_row inside upto below holds hold held = λ j x short within.
    elim (cases_lt j from) [
      | inl less ↦ held j x less within
      | inr more ↦
          hold slot j x below (omega arith) within (ap (λ (r : ℕ). is_data (part_of geo.head r slot)) (in_row (first + j) (omega arith) (omega arith)) ∙ holds)
    ]

-- no sector yet
pub slot_none : (images : List (List ℕ)) (geo : Geometry) (stride first n slot : ℕ) (sectors : List ℕ) → n ≡ 0 → HoldSlot images geo stride first n slot sectors
slot_none images geo stride first n slot sectors none = λ j x below short. absurd (omega arith)

-- whether the block of a slot is parity, by its cell
flipped : (a b : Bool) → a ≡ not b → not a ≡ b
flipped true true e = absurd (false≢true (sym e))
flipped true false e = refl
flipped false true e = refl
flipped false false e = absurd (false≢true e)

pub kind_at : (geo : Geometry) (row slot : ℕ) (cells : List Cell) (parity : Bool) → cells ≡ row_cells geo row → slot < length geo.slots.items → parity ≡ not (is_data (get_or cells slot no_cell).part) →
    is_data (part_of geo.head row slot) ≡ not parity
kind_at geo row slot cells parity are below is =
    at_cell geo row slot cells (λ cell. is_data cell.part ≡ not parity) are below
    (cell_there cells slot no_cell (let long = row_length geo row cells are in omega arith) (λ cell. is_data cell.part ≡ not parity)
    (sym (flipped parity (is_data (get_or cells slot no_cell).part) is)))

pub parity_there : (geo : Geometry) (row slot : ℕ) (cells : List Cell) → cells ≡ row_cells geo row → is_data (part_of geo.head row slot) ≡ false → IfSome (slice_get cells slot) (λ cell. is_data cell.part ≡ false)
parity_there geo row slot cells are parity = where_cell geo row slot cells (λ cell. is_data cell.part ≡ false) are (λ below. parity)
