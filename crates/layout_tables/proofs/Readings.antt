-- Tables and their spellings.
use Rattle.std.proofs.Common.{◌≡◌, ◌≢◌, ℕ, ◌≤◌, ◌<◌, true, false, List, [], ◌∷◌, All, map, length, get_or, nat_le, refl, sym, subst, ap, ◌∙◌, arith, Option, None, Some, MatchOption}
use Rattle.std.specs.List.{join_with_byte}
use Rattle.std.proofs.Props.{props}
use Rattle.std.proofs.lemmas.Bool.{false≢true}
use Rattle.std.proofs.lemmas.Bool.Decides.{nat_tests}
use Rattle.std.proofs.lemmas.List.{get_or-map, length-map}
use Rattle.std.proofs.lemmas.List.Sums.{AllPass-from_list_all}
use Rattle.arrayvec.specs.ArrayVec.{ArrayVec}
use Rattle.layout_tables.specs.Cells.{AreCells, IsCell, cells_in}
use Rattle.layout_tables.specs.Pieces.{IsPieceName}
use Rattle.layout_tables.specs.Shape.{IsDrawn, data_in, first_of, grid_of, is_row, is_table, parities_in, rows_in}
use Rattle.layout_tables.specs.Spelling.{row_name, rows_name}
use Rattle.layout_tables.specs.Tables.{rows_of, spelling}
use Rattle.layout_tables.specs.declared.table.Table.{Table}
use Rattle.layout_tables.proofs.Names.{row_law}
use Rattle.layout_tables.proofs.ShapeLemmas.{first_parts, row_parts, table_parts}
use Rattle.layout_tables.proofs.Spelled.{same_joined}

-- ---- rows of a table are rows of cells

are_cells : (row : List ℕ) → All (λ byte. nat_le byte 26 ≡ true) row → All IsCell row
are_cells row all k d below = let test = all k d below in grind (arith, nat_tests)

pub rows_are_cells : (rows : List (List ℕ)) → is_table rows ≡ true → All AreCells rows
rows_are_cells rows is k d below =
    let parts = table_parts rows is in
    let first = first_parts (first_of rows) parts.first in
    let row = row_parts (first_of rows) (get_or rows k d) (AllPass-from_list_all (is_row (first_of rows)) rows parts.each k d below) in
    (omega (arith, first.some, row.slots), omega (arith, first.few, row.slots), are_cells (get_or rows k d) (AllPass-from_list_all (λ byte. nat_le byte 26) (get_or rows k d) row.cells))

pub is_table_of : (table : Table) → is_table (rows_of table) ≡ true
unfolding rows_of
is_table_of table = table.drawn.sound

-- ---- rows as they are read

pub boxed : List (List ℕ) → List (ArrayVec ℕ)
boxed rows = map (λ row. record { items = row }) rows

pub cells_boxed : (rows : List (List ℕ)) → cells_in (boxed rows) ≡ rows
unfolding boxed
cells_boxed [] = refl
cells_boxed (row ∷ rows) = ap (λ (rest : List (List ℕ)). row ∷ rest) (cells_boxed rows)

pub name_of_rows : (rows : List (ArrayVec ℕ)) → map (λ row. row_name row.items) rows ≡ map row_name (cells_in rows)
name_of_rows [] = refl
name_of_rows (row ∷ rows) = ap (λ (rest : List (List ℕ)). row_name row.items ∷ rest) (name_of_rows rows)

pub items_law : IsPieceName {A = ArrayVec ℕ} 47 (λ row. row_name row.items) (λ row. AreCells row.items)
items_law = record {
  one_value = λ x y p q e. ap (λ (cells : List ℕ). record { items = cells }) (row_law.one_value x.items y.items p q e);
  has_none = λ x p. row_law.has_none x.items p;
}

pub all_items : (rows : List (ArrayVec ℕ)) → All AreCells (cells_in rows) → All (λ row. AreCells row.items) rows
all_items rows all k d below =
    let many : length (cells_in rows) ≡ length rows = length-map rows (λ (r : ArrayVec ℕ). r.items) in
    subst AreCells (get_or-map (λ (r : ArrayVec ℕ). r.items) rows k d d.items below) (all k d.items (omega arith))

pub all_cells : (rows : List (ArrayVec ℕ)) → All (λ row. AreCells row.items) rows → All AreCells (cells_in rows)
all_cells rows all k d below =
    let many : length (cells_in rows) ≡ length rows = length-map rows (λ (r : ArrayVec ℕ). r.items) in
    let within : k < length rows = omega arith in
    subst AreCells (sym (get_or-map (λ (r : ArrayVec ℕ). r.items) rows k (record { items = d }) d within)) (all k (record { items = d }) within)

-- rows of one spelling are one
pub same_rows : (rows others : List (List ℕ)) → 1 ≤ length rows → All AreCells rows → is_table others ≡ true → rows_name rows ≡ rows_name others → rows ≡ others
same_rows rows others some all is e = same_joined 47 row_name AreCells row_law rows others some (table_parts others is).some all (rows_are_cells others is) e

-- ---- tables

pub record Fields : Type 0 where
  pub grid : List (List ℕ)
  pub slots : ℕ
  pub period : ℕ
  pub items : ℕ
  pub parities : ℕ

abbrev Drawn : Fields → Type 0
Drawn f = IsDrawn f.grid f.slots f.period f.items f.parities

made : (f : Fields) → Drawn f → Table
made f drawn = record { grid = f.grid; slots = f.slots; period = f.period; items = f.items; parities = f.parities; drawn = drawn }

drawn_prop : (f : Fields) → IsProp (Drawn f)
drawn_prop f = hlevel props

same_made : (f g : Fields) (p : Drawn f) (q : Drawn g) → f ≡ g → made f p ≡ made g q
same_made f g p q e =
    let alone : (r : Drawn f) → made f p ≡ made f r = λ r. ap (made f) (drawn_prop f p r) in
    subst (λ (h : Fields). (r : Drawn h) → made f p ≡ made h r) e alone q

fields_with : List (List ℕ) → ℕ → ℕ → ℕ → ℕ → Fields
fields_with grid slots period items parities = record { grid = grid; slots = slots; period = period; items = items; parities = parities }

same_fields : (f g : Fields) → (p : Drawn f) (q : Drawn g) → rows_in f.grid f.slots f.period ≡ rows_in g.grid g.slots g.period → f ≡ g
unfolding fields_with
same_fields f g p q e =
    let grid : f.grid ≡ g.grid = p.grid_is ∙ ap grid_of e ∙ sym q.grid_is in
    let slots : f.slots ≡ g.slots = p.slots_is ∙ ap (λ (r : List (List ℕ)). length (first_of r)) e ∙ sym q.slots_is in
    let period : f.period ≡ g.period = p.period_is ∙ ap (length {A = List ℕ}) e ∙ sym q.period_is in
    let items : f.items ≡ g.items = p.items_is ∙ ap (λ (r : List (List ℕ)). data_in (first_of r)) e ∙ sym q.items_is in
    let parities : f.parities ≡ g.parities = p.parities_is ∙ ap (λ (r : List (List ℕ)). parities_in (first_of r)) e ∙ sym q.parities_is in
    let same : fields_with f.grid f.slots f.period f.items f.parities ≡ fields_with g.grid g.slots g.period g.items g.parities = cc in
    same

-- tables of the same rows are one
pub one_table : (table other : Table) → rows_of table ≡ rows_of other → table ≡ other
unfolding rows_of made
one_table table other e =
    let f : Fields = record { grid = table.grid; slots = table.slots; period = table.period; items = table.items; parities = table.parities } in
    let g : Fields = record { grid = other.grid; slots = other.slots; period = other.period; items = other.items; parities = other.parities } in
    same_made f g table.drawn other.drawn (same_fields f g table.drawn other.drawn e)

-- and so are tables of one spelling
pub one_spelling : (table other : Table) → spelling table ≡ spelling other → table ≡ other
one_spelling table other e =
    let tail : rows_name (rows_of table) ≡ rows_name (rows_of other) = cc in
    one_table table other (same_rows (rows_of table) (rows_of other) (table_parts (rows_of table) (is_table_of table)).some (rows_are_cells (rows_of table) (is_table_of table)) (is_table_of other) tail)

-- ---- what is read

abbrev ReadRows : List ℕ → List (ArrayVec ℕ) → Type 0
ReadRows rest rows = (1 ≤ length rows) × (length rows ≤ 64) × All (λ row. AreCells row.items) rows × (rest ≡ join_with_byte 47 (map (λ row. row_name row.items) rows))

pub no_rows : (text rest : List ℕ) (table : Table) → text ≡ 61 ∷ rest →
    ((rows : List (ArrayVec ℕ)) → 1 ≤ length rows → length rows ≤ 64 → All (λ row. AreCells row.items) rows → rest ≢ join_with_byte 47 (map (λ row. row_name row.items) rows)) →
    text ≡ spelling table → ⊥
no_rows text rest table begins none e =
    let rows = boxed (rows_of table) in
    let same : cells_in rows ≡ rows_of table = cells_boxed (rows_of table) in
    let is : is_table (cells_in rows) ≡ true = ap is_table same ∙ is_table_of table in
    let parts = table_parts (cells_in rows) is in
    let many : length (cells_in rows) ≡ length rows = length-map rows (λ (r : ArrayVec ℕ). r.items) in
    let tail : rest ≡ rows_name (rows_of table) = cc in
    none rows (omega (arith, parts.some)) (omega (arith, parts.few)) (all_items rows (rows_are_cells (cells_in rows) is))
    (tail ∙ ap rows_name (sym same) ∙ sym (ap (join_with_byte 47) (name_of_rows rows)))

pub read_as : (text rest : List ℕ) (rows : List (ArrayVec ℕ)) (r : Option Table) → text ≡ 61 ∷ rest → ReadRows rest rows →
    MatchOption r (is_table (cells_in rows) ≡ false) (λ table. (is_table (cells_in rows) ≡ true) × (rows_of table ≡ cells_in rows)) →
    MatchOption r ((table : Table) → text ≢ spelling table) (λ table. text ≡ spelling table)
read_as text rest rows None begins read fails = λ table e.
    let named : rest ≡ rows_name (cells_in rows) = read.3 ∙ ap (join_with_byte 47) (name_of_rows rows) in
    let tail : rest ≡ rows_name (rows_of table) = cc in
    let all : All AreCells (cells_in rows) = all_cells rows read.2 in
    let many : length (cells_in rows) ≡ length rows = length-map rows (λ (r : ArrayVec ℕ). r.items) in
    let same : cells_in rows ≡ rows_of table = same_rows (cells_in rows) (rows_of table) (omega (arith, read.0)) all (is_table_of table) (sym named ∙ tail) in
    absurd (false≢true (sym fails ∙ ap is_table same ∙ is_table_of table))
read_as text rest rows (Some table) begins read holds =
    begins ∙ ap (λ (more : List ℕ). 61 ∷ more) (read.3 ∙ ap (join_with_byte 47) (name_of_rows rows) ∙ ap rows_name (sym holds.1))
