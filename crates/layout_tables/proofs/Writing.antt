-- Spellings as they are written.
use Rattle.std.proofs.Common.{◌≡◌, ℕ, ◌≤◌, ◌<◌, ◌+◌, ◌/◌, ◌%◌, List, [], ◌∷◌, ◌++◌, map, length, take, get_or, refl, sym, ap, ◌∙◌, arith, append_assoc, length-take-le}
use Rattle.std.proofs.Math.Nat.{mod-eq_of_lt}
use Rattle.std.specs.List.{join_with_byte}
use Rattle.std.proofs.lemmas.List.{take_more}
use Rattle.layout_tables.specs.Cells.{AreCells, cell_name}
use Rattle.layout_tables.specs.Spelling.{row_name, rows_name, table_name}
use Rattle.layout_tables.specs.Tables.{row_at, rows_of}
use Rattle.layout_tables.specs.declared.table.Table.{Table}
use Rattle.layout_tables.proofs.Names.{name_item, one_digit, with_tens}
use Rattle.layout_tables.proofs.Readings.{is_table_of, rows_are_cells}
use Rattle.layout_tables.proofs.TableLemmas.{period_is, period_some}

-- ---- one more value with a separator before it

pub joined_more : {A : Type 0} (separator : ℕ) (name : A → List ℕ) (xs : List A) (x : A) → 1 ≤ length xs →
    join_with_byte separator (map name (xs ++ x ∷ [])) ≡ (join_with_byte separator (map name xs) ++ separator ∷ []) ++ name x
joined_more separator name [] x some = absurd (omega arith)
joined_more separator name (y ∷ []) x some = sym (append_assoc (name y) (separator ∷ []) (name x))
joined_more separator name (y ∷ z ∷ xs) x some =
    let rest : List ℕ = join_with_byte separator (map name (z ∷ xs)) in
    ap (λ (more : List ℕ). name y ++ separator ∷ more) (joined_more separator name (z ∷ xs) x (omega arith))
    ∙ sym (ap (λ (front : List ℕ). front ++ name x) (append_assoc (name y) (separator ∷ rest) (separator ∷ []))
    ∙ append_assoc (name y) ((separator ∷ rest) ++ separator ∷ []) (name x))

appended : (old front stop last whole : List ℕ) → whole ≡ (front ++ stop) ++ last → ((old ++ front) ++ stop) ++ last ≡ old ++ whole
appended old front stop last whole is =
    ap (λ (x : List ℕ). x ++ last) (append_assoc old front stop) ∙ append_assoc old (front ++ stop) last ∙ ap (λ (x : List ℕ). old ++ x) (sym is)

-- ---- cells

pub digit_name : (byte : ℕ) → byte < 10 → (48 + byte) ∷ [] ≡ cell_name byte
digit_name byte small = sym (name_item byte (omega arith) ∙ one_digit byte small)

pub digits_name : (byte : ℕ) → 10 ≤ byte → byte < 24 → (48 + byte / 10) ∷ (48 + byte % 10) ∷ [] ≡ cell_name byte
digits_name byte large small = sym (name_item byte small ∙ with_tens byte large small)

pub two_pushed : (old : List ℕ) (tens units : ℕ) (name : List ℕ) → tens ∷ units ∷ [] ≡ name → (old ++ tens ∷ []) ++ units ∷ [] ≡ old ++ name
two_pushed old tens units name is = append_assoc old (tens ∷ []) (units ∷ []) ∙ ap (λ (x : List ℕ). old ++ x) is

-- ---- rows

pub row_first : (row : List ℕ) → 1 ≤ length row → cell_name (get_or row 0 0) ≡ row_name (take 1 row)
row_first [] some = absurd (omega arith)
row_first (byte ∷ row) some = refl

pub row_next : (old row : List ℕ) (at : ℕ) → 1 ≤ at → at < length row →
    ((old ++ row_name (take at row)) ++ 46 ∷ []) ++ cell_name (get_or row at 0) ≡ old ++ row_name (take (at + 1) row)
row_next old row at some below =
    let many : length (take at row) ≡ at = length-take-le at row (omega arith) in
    let more : row_name (take (at + 1) row) ≡ (row_name (take at row) ++ 46 ∷ []) ++ cell_name (get_or row at 0) =
    ap row_name (take_more row at 0 below) ∙ joined_more 46 cell_name (take at row) (get_or row at 0) (omega arith) in
    appended old (row_name (take at row)) (46 ∷ []) (cell_name (get_or row at 0)) (row_name (take (at + 1) row)) more

-- ---- tables

rows_first : (rows : List (List ℕ)) (row : List ℕ) → 1 ≤ length rows → row ≡ get_or rows 0 [] → 61 ∷ row_name row ≡ table_name (take 1 rows)
rows_first [] row some is = absurd (omega arith)
rows_first (first ∷ rows) row some is = ap (λ (r : List ℕ). 61 ∷ row_name r) is

rows_next : (rows : List (List ℕ)) (row : List ℕ) (at : ℕ) → 1 ≤ at → at < length rows → row ≡ get_or rows at [] →
    (table_name (take at rows) ++ 47 ∷ []) ++ row_name row ≡ table_name (take (at + 1) rows)
rows_next rows row at some below is =
    let many : length (take at rows) ≡ at = length-take-le at rows (omega arith) in
    let more : rows_name (take (at + 1) rows) ≡ (rows_name (take at rows) ++ 47 ∷ []) ++ row_name row =
    ap rows_name (take_more rows at [] below) ∙ joined_more 47 row_name (take at rows) (get_or rows at []) (omega arith)
    ∙ ap (λ (r : List ℕ). (rows_name (take at rows) ++ 47 ∷ []) ++ row_name r) (sym is) in
    ap (λ (rest : List ℕ). 61 ∷ rest) (sym more)

pub at_place : (table : Table) (at : ℕ) → at < table.period → row_at table at ≡ get_or (rows_of table) at []
unfolding row_at
at_place table at below = ap (λ (n : ℕ). get_or (rows_of table) n []) (mod-eq_of_lt below)

pub table_first : (table : Table) (row : List ℕ) → row ≡ row_at table 0 → 61 ∷ row_name row ≡ table_name (take 1 (rows_of table))
table_first table row is =
    let some = period_some table in
    rows_first (rows_of table) row (omega (arith, period_is table)) (is ∙ at_place table 0 (omega arith))

pub table_next : (table : Table) (row : List ℕ) (at : ℕ) → 1 ≤ at → at < table.period → row ≡ row_at table at →
    (table_name (take at (rows_of table)) ++ 47 ∷ []) ++ row_name row ≡ table_name (take (at + 1) (rows_of table))
table_next table row at some below is = rows_next (rows_of table) row at some (omega (arith, period_is table)) (is ∙ at_place table at below)

pub row_cells : (table : Table) (row : ℕ) → AreCells (row_at table row)
unfolding row_at
row_cells table row =
    let some = period_some table in
    let below : row % table.period < length (rows_of table) = omega (arith, period_is table) in
    rows_are_cells (rows_of table) (is_table_of table) (row % table.period) [] below
