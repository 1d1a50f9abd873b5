-- Rows that make a table.
use Rattle.std.proofs.Common.{◌≡◌, ℕ, ◌≤◌, ◌<◌, ◌+◌, ◌-◌, suc, Bool, true, List, [], ◌∷◌, ◌++◌, ◌||◌, map, length, take, replicate, nat_le, nat_eq, get_or, set, refl, sym, subst, ap, ◌∙◌, arith, append_assoc, length-take-le}
use Rattle.std.specs.List.{list_all, list_any, range_with_len}
use Rattle.std.proofs.lemmas.Bool.{and_parts}
use Rattle.std.proofs.lemmas.Bool.Decides.{nat_tests}
use Rattle.std.proofs.lemmas.List.{length-map, length_push, map_more, map_push, set_at, take_at}
use Rattle.arrayvec.specs.ArrayVec.{ArrayVec}
use Rattle.layout_tables.specs.Cells.{cells_in}
use Rattle.layout_tables.specs.Shape.{IsDrawn, data_in, first_of, grid_of, is_first, is_row, is_table, is_used, padded, parities_in, rows_in, times}

pub list_any-map : {X Y : Type 0} (p : X → Bool) (h : Y → X) (ys : List Y) → list_any p (map h ys) ≡ list_any (λ y. p (h y)) ys
list_any-map p h [] = refl
list_any-map p h (y ∷ ys) = ap (λ (b : Bool). p (h y) || b) (list_any-map p h ys)

-- ---- parts of a table

pub record TableParts (rows : List (List ℕ)) : Type 0 where
  pub some : 1 ≤ length rows
  pub few : length rows ≤ 64
  pub first : is_first (first_of rows) ≡ true
  pub each : list_all (is_row (first_of rows)) rows ≡ true
  pub used : list_all (is_used rows) (range_with_len 0 (length (first_of rows))) ≡ true

pub table_parts : (rows : List (List ℕ)) → is_table rows ≡ true → TableParts rows
unfolding is_table
table_parts rows is = record {
  some = grind (arith, nat_tests);
  few = grind (arith, nat_tests);
  first = grind (arith, nat_tests);
  each = grind (arith, nat_tests);
  used = grind (arith, nat_tests);
}

pub record FirstParts (row : List ℕ) : Type 0 where
  pub some : 2 ≤ length row
  pub few : length row ≤ 24
  pub items : 2 ≤ data_in row
  pub one_p : times 24 row ≤ 1
  pub one_q : times 25 row ≤ times 24 row

pub first_parts : (row : List ℕ) → is_first row ≡ true → FirstParts row
unfolding is_first
first_parts row is = record {
  some = grind (arith, nat_tests);
  few = grind (arith, nat_tests);
  items = grind (arith, nat_tests);
  one_p = grind (arith, nat_tests);
  one_q = grind (arith, nat_tests);
}

pub record RowParts (first row : List ℕ) : Type 0 where
  pub cells : list_all (λ byte. nat_le byte 26) row ≡ true
  pub slots : length row ≡ length first
  pub items : data_in row ≡ data_in first
  pub p : times 24 row ≡ times 24 first
  pub q : times 25 row ≡ times 25 first
  pub each : list_all (λ item. nat_eq (times item row) 1) (range_with_len 0 (data_in first)) ≡ true

pub row_parts : (first row : List ℕ) → is_row first row ≡ true → RowParts first row
unfolding is_row
row_parts first row is = record {
  cells = grind (arith, nat_tests);
  slots = grind (arith, nat_tests);
  items = grind (arith, nat_tests);
  p = grind (arith, nat_tests);
  q = grind (arith, nat_tests);
  each = grind (arith, nat_tests);
}

-- ---- rows with spares behind them

taken_back : (first : List ℕ) (rows : List (List ℕ)) → list_all (is_row first) rows ≡ true → map (take (length first)) (map padded rows) ≡ rows
taken_back first [] all = refl
taken_back first (row ∷ rows) all =
    let parts = and_parts (is_row first row) (list_all (is_row first) rows) all in
    let same : take (length first) (padded row) ≡ row = take_at row (replicate (24 - length row) 26) (length first) (row_parts first row parts.0).slots in
    let rest : map (take (length first)) (map padded rows) ≡ rows = taken_back first rows parts.1 in
    cc

-- a grid has the rows of which it was made
pub rows_back : (rows : List (List ℕ)) → is_table rows ≡ true → rows_in (grid_of rows) (length (first_of rows)) (length rows) ≡ rows
rows_back rows is =
    let blank : List (List ℕ) = replicate (64 - length rows) (replicate 24 26) in
    ap (map (take (length (first_of rows)))) (take_at (map padded rows) blank (length rows) (length-map rows padded)) ∙ taken_back (first_of rows) rows (table_parts rows is).each

-- one more row
pub grid_more : (rows : List (List ℕ)) (row : List ℕ) (at : ℕ) → length rows ≡ at → at < 64 → set (grid_of rows) at (padded row) ≡ grid_of (rows ++ row ∷ [])
grid_more rows row at is below =
    let blank : List ℕ = replicate 24 26 in
    let left : 64 - length rows ≡ suc (63 - length rows) = omega arith in
    let fewer : 64 - length (rows ++ row ∷ []) ≡ 63 - length rows = omega (arith, length_push rows row) in
    ap (λ (n : ℕ). set (map padded rows ++ replicate n blank) at (padded row)) left
    ∙ set_at (map padded rows) blank (replicate (63 - length rows) blank) (padded row) at (length-map rows padded ∙ is)
    ∙ sym (append_assoc (map padded rows) (padded row ∷ []) (replicate (63 - length rows) blank))
    ∙ ap (λ (front : List (List ℕ)). front ++ replicate (63 - length rows) blank) (sym (map_push padded rows row))
    ∙ ap (λ (n : ℕ). map padded (rows ++ row ∷ []) ++ replicate n blank) (sym fewer)

pub grid_next : (rows : List (ArrayVec ℕ)) (at : ℕ) (row : ArrayVec ℕ) → at < length rows → length rows ≤ 64 → row ≡ get_or rows at row →
    set (grid_of (cells_in (take at rows))) at (padded row.items) ≡ grid_of (cells_in (take (at + 1) rows))
grid_next rows at row below few is =
    let some : length (cells_in (take at rows)) ≡ at = length-map (take at rows) (λ (r : ArrayVec ℕ). r.items) ∙ length-take-le at rows (omega arith) in
    let more : cells_in (take (at + 1) rows) ≡ cells_in (take at rows) ++ row.items ∷ [] =
    map_more (λ (r : ArrayVec ℕ). r.items) rows at row below ∙ ap (λ (r : ArrayVec ℕ). cells_in (take at rows) ++ r.items ∷ []) (sym is) in
    grid_more (cells_in (take at rows)) row.items at some (omega arith) ∙ ap grid_of (sym more)

-- ---- the table of rows

pub first_cells : (rows : List (ArrayVec ℕ)) (row : ArrayVec ℕ) → 0 < length rows → row ≡ get_or rows 0 row → row.items ≡ first_of (cells_in rows)
first_cells [] row some is = absurd (omega arith)
first_cells (first ∷ rows) row some is = ap (λ (r : ArrayVec ℕ). r.items) is

pub cells_some : (rows : List (ArrayVec ℕ)) → is_table (cells_in rows) ≡ true → (1 ≤ length rows) × (length rows ≤ 64)
cells_some rows is =
    let parts = table_parts (cells_in rows) is in
    let many : length (cells_in rows) ≡ length rows = length-map rows (λ (r : ArrayVec ℕ). r.items) in
    (omega (arith, parts.some), omega (arith, parts.few))

-- the rows that these fields have
pub rows_with : (rows : List (List ℕ)) (grid : List (List ℕ)) (slots period : ℕ) → is_table rows ≡ true → grid ≡ grid_of rows → slots ≡ length (first_of rows) → period ≡ length rows →
    rows_in grid slots period ≡ rows
rows_with rows grid slots period is g s p =
    ap (λ (x : List (List ℕ)). rows_in x slots period) g ∙ ap (λ (x : ℕ). rows_in (grid_of rows) x period) s ∙ ap (λ (x : ℕ). rows_in (grid_of rows) (length (first_of rows)) x) p
    ∙ rows_back rows is

pub drawn_with : (rows : List (List ℕ)) (grid : List (List ℕ)) (slots period items parities : ℕ) → is_table rows ≡ true → grid ≡ grid_of rows → slots ≡ length (first_of rows) → period ≡ length rows →
    items ≡ data_in (first_of rows) → parities ≡ parities_in (first_of rows) → IsDrawn grid slots period items parities
drawn_with rows grid slots period items parities is g s p d x =
    let back : rows ≡ rows_in grid slots period = sym (rows_with rows grid slots period is g s p) in
    record {
      sound = subst (λ (r : List (List ℕ)). is_table r ≡ true) back is;
      grid_is = g ∙ ap grid_of back;
      slots_is = s ∙ ap (λ (r : List (List ℕ)). length (first_of r)) back;
      period_is = p ∙ ap (length {A = List ℕ}) back;
      items_is = d ∙ ap (λ (r : List (List ℕ)). data_in (first_of r)) back;
      parities_is = x ∙ ap (λ (r : List (List ℕ)). parities_in (first_of r)) back;
    }
