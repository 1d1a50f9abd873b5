-- Tables with their least period.
use Rattle.std.proofs.Common.{◌≡◌, ◌≢◌, ℕ, zero, suc, ◌≤◌, ◌<◌, ◌+◌, ◌-◌, ◌*◌, ◌/◌, ◌%◌, Bool, true, not, nat_eq, List, [], ◌∷◌, ◌++◌, map, length, take, get_or, replicate, sym, ap, ◌∙◌, arith, set, append_assoc, length-take-le}
use Rattle.std.specs.List.{list_all, range_with_len}
use Rattle.std.proofs.lemmas.Bool.{ne_eqb}
use Rattle.std.proofs.lemmas.Bool.Decides.{nat_tests}
use Rattle.std.proofs.lemmas.List.{get_or-take, length-map, set_at, take-append-le, take-map, take_more}
use Rattle.std.proofs.lemmas.List.Folds.{list_any_at}
use Rattle.std.proofs.lemmas.List.Sums.{AllPass-from_list_all, list_all-from_AllPass}
use Rattle.layout_tables.specs.Cells.{cell_with}
use Rattle.layout_tables.specs.Periods.{least_period}
use Rattle.layout_tables.specs.Shape.{IsDrawn, data_in, first_of, grid_of, is_first, is_row, is_table, is_used, padded, parities_in}
use Rattle.layout_tables.specs.Tables.{cell_of, row_at, rows_of}
use Rattle.layout_tables.specs.declared.table.Table.{Table}
use Rattle.layout_tables.proofs.CellKinds.{used_row}
use Rattle.layout_tables.proofs.Readings.{is_table_of}
use Rattle.layout_tables.proofs.Repeats.{least_is, same_place}
use Rattle.layout_tables.proofs.ShapeLemmas.{drawn_with, rows_with, table_parts}
use Rattle.layout_tables.proofs.TableLemmas.{grid_is, items_is, parities_is, period_few, period_is, period_some, slots_is}
use Rattle.layout_tables.proofs.Writing.{at_place}

-- ---- rows by their places in the least period

one_more : (r p k : ℕ) → r + p * suc k ≡ (r + p * k) + p
one_more r p k = grind arith

many : (table : Table) (r k : ℕ) → row_at table (r + least_period table * k) ≡ row_at table r
many table r zero = let same : r + least_period table * 0 ≡ r = omega arith in ap (row_at table) same
many table r (suc k) =
    ap (row_at table) (one_more r (least_period table) k) ∙ (least_is table).2 (r + least_period table * k) ∙ many table r k

in_least : (table : Table) (row : ℕ) → row_at table row ≡ row_at table (row % least_period table)
in_least table row =
    let some = (least_is table).0 in
    let whole : row ≡ row % least_period table + least_period table * (row / least_period table) = omega arith in
    ap (row_at table) whole ∙ many table (row % least_period table) (row / least_period table)

-- the rows of the least period
abbrev pub cut : Table → List (List ℕ)
cut table = take (least_period table) (rows_of table)

length_cut : (table : Table) → length (cut table) ≡ least_period table
length_cut table =
    let most = (least_is table).1 in
    length-take-le (least_period table) (rows_of table) (omega (arith, period_is table))

at_cut : (table : Table) (k : ℕ) → k < least_period table → get_or (cut table) k [] ≡ row_at table k
at_cut table k below =
    let most = (least_is table).1 in
    get_or-take (least_period table) (rows_of table) k [] below ∙ sym (at_place table k (omega arith))

-- ---- it makes a table

table_from : (rows : List (List ℕ)) → 1 ≤ length rows → length rows ≤ 64 → is_first (first_of rows) ≡ true → list_all (is_row (first_of rows)) rows ≡ true →
    list_all (is_used rows) (range_with_len 0 (length (first_of rows))) ≡ true → is_table rows ≡ true
unfolding is_table
table_from rows some few first each used = grind (arith, nat_tests)

first_cut : (table : Table) → first_of (cut table) ≡ first_of (rows_of table)
first_cut table = let some = (least_is table).0 in get_or-take (least_period table) (rows_of table) 0 [] (omega arith)

rows_cut : (table : Table) (q : List ℕ → Bool) → list_all q (rows_of table) ≡ true → list_all q (cut table) ≡ true
rows_cut table q all =
    let most = (least_is table).1 in
    list_all-from_AllPass q (cut table) (λ k d below.
    let less : k < least_period table = omega (arith, length_cut table) in
    let within : k < length (rows_of table) = omega (arith, period_is table) in
    ap q (get_or-take (least_period table) (rows_of table) k d less) ∙ AllPass-from_list_all q (rows_of table) all k d within)

used_cut : (table : Table) (slot : ℕ) → is_used (rows_of table) slot ≡ true → is_used (cut table) slot ≡ true
unfolding is_used
used_cut table slot is =
    let some = (least_is table).0 in
    let row = used_row (rows_of table) slot is in
    let least : ℕ = least_period table in
    let less : row.0 % least_period table < least_period table = omega arith in
    let inside : row.0 < table.period = omega (arith, period_is table, row.1) in
    let same : get_or (cut table) (row.0 % least_period table) [] ≡ get_or (rows_of table) row.0 [] =
    at_cut table (row.0 % least_period table) less ∙ sym (in_least table row.0) ∙ at_place table row.0 inside in
    let other : get_or (get_or (cut table) (row.0 % least_period table) []) slot 26 ≢ 26 = λ e. row.2 (ap (λ (r : List ℕ). get_or r slot 26) (sym same) ∙ e) in
    list_any_at (λ (r : List ℕ). not (nat_eq (get_or r slot 26) 26)) (cut table) (row.0 % least_period table) [] (omega (arith, length_cut table))
    (ap not (ne_eqb (get_or (get_or (cut table) (row.0 % least_period table) []) slot 26) 26 other))

pub cut_is_table : (table : Table) → is_table (cut table) ≡ true
cut_is_table table =
    let parts = table_parts (rows_of table) (is_table_of table) in
    let some = (least_is table).0 in
    let most = (least_is table).1 in
    let few = period_few table in
    let first = first_cut table in
    let n : ℕ = length (first_of (rows_of table)) in
    let used : list_all (is_used (cut table)) (range_with_len 0 (length (first_of (rows_of table)))) ≡ true =
    list_all-from_AllPass (is_used (cut table)) (range_with_len 0 (length (first_of (rows_of table)))) (λ k d below.
    used_cut table (get_or (range_with_len 0 (length (first_of (rows_of table)))) k d) (AllPass-from_list_all (is_used (rows_of table)) (range_with_len 0 (length (first_of (rows_of table)))) parts.used k d below)) in
    table_from (cut table) (omega (arith, length_cut table)) (omega (arith, length_cut table))
    (ap is_first first ∙ parts.first)
    (ap (λ (f : List ℕ). list_all (is_row f) (cut table)) first ∙ rows_cut table (is_row (first_of (rows_of table))) parts.each)
    (ap (λ (f : List ℕ). list_all (is_used (cut table)) (range_with_len 0 (length f))) first ∙ used)

pub cut_grid_is : (table : Table) (grid : List (List ℕ)) → grid ≡ take (least_period table) table.grid ++ replicate (64 - least_period table) (replicate 24 26) → grid ≡ grid_of (cut table)
cut_grid_is table grid is =
    let rows = rows_of table in
    let p : ℕ = least_period table in
    let blank : List ℕ = replicate 24 26 in
    let most = (least_is table).1 in
    let within : least_period table ≤ length (map padded rows) = omega (arith, period_is table, length-map rows padded) in
    let front : take (least_period table) table.grid ≡ map padded (cut table) =
    ap (take (least_period table)) (grid_is table) ∙ take-append-le (least_period table) (map padded rows) (replicate (64 - length rows) blank) within ∙ take-map padded (least_period table) rows in
    is ∙ ap (λ (x : List (List ℕ)). x ++ replicate (64 - least_period table) blank) front
    ∙ ap (λ (n : ℕ). map padded (cut table) ++ replicate (64 - n) blank) (sym (length_cut table))

pub cut_is_drawn : (table : Table) (grid : List (List ℕ)) (period : ℕ) → period ≡ least_period table → grid ≡ grid_of (cut table) →
    IsDrawn grid table.slots period table.items table.parities
cut_is_drawn table grid period is g =
    let first = first_cut table in
    drawn_with (cut table) grid table.slots period table.items table.parities (cut_is_table table) g
    (slots_is table ∙ ap (length {A = ℕ}) (sym first)) (is ∙ sym (length_cut table)) (items_is table ∙ ap data_in (sym first)) (parities_is table ∙ ap parities_in (sym first))

pub same_cells : (table other : Table) → rows_of other ≡ cut table → (row slot : ℕ) → cell_of other row slot ≡ cell_of table row slot
unfolding cell_of
same_cells table other is row slot =
    let some = (least_is table).0 in
    let period : other.period ≡ least_period table = period_is other ∙ ap (length {A = List ℕ}) is ∙ length_cut table in
    let positive = period_some other in
    let below : row % other.period < other.period = omega arith in
    let less : row % least_period table < least_period table = omega arith in
    let bytes : row_at other row ≡ row_at table row =
    same_place other row ∙ at_place other (row % other.period) below ∙ ap (λ (r : List (List ℕ)). get_or r (row % other.period) []) is
    ∙ ap (λ (n : ℕ). get_or (cut table) (row % n) []) period ∙ at_cut table (row % least_period table) less ∙ sym (in_least table row) in
    ap (λ (r : List ℕ). cell_with (get_or r slot 26)) bytes

-- one more row of a grid
pub taken_more : (grid : List (List ℕ)) (at : ℕ) → length grid ≡ 64 → at < 64 →
    set (take at grid ++ replicate (64 - at) (replicate 24 26)) at (get_or grid at []) ≡ take (at + 1) grid ++ replicate (64 - (at + 1)) (replicate 24 26)
taken_more grid at room below =
    let blank : List ℕ = replicate 24 26 in
    let row : List ℕ = get_or grid at [] in
    let left : 64 - at ≡ suc (63 - at) = omega arith in
    let right : 63 - at ≡ 64 - (at + 1) = omega arith in
    let within : at < length grid = omega arith in
    ap (λ (n : ℕ). set (take at grid ++ replicate n blank) at row) left
    ∙ set_at (take at grid) blank (replicate (63 - at) blank) row at (length-take-le at grid (omega arith))
    ∙ sym (append_assoc (take at grid) (row ∷ []) (replicate (63 - at) blank))
    ∙ ap (λ (front : List (List ℕ)). front ++ replicate (63 - at) blank) (sym (take_more grid at [] within))
    ∙ ap (λ (n : ℕ). take (at + 1) grid ++ replicate n blank) right

pub rows_reduced : (table : Table) (grid : List (List ℕ)) (period : ℕ) → period ≡ least_period table → grid ≡ grid_of (cut table) →
    (drawn : IsDrawn grid table.slots period table.items table.parities) →
    rows_of (record { grid = grid; slots = table.slots; period = period; items = table.items; parities = table.parities; drawn = drawn }) ≡ cut table
unfolding rows_of
rows_reduced table grid period is g drawn =
    rows_with (cut table) grid table.slots period (cut_is_table table) g (slots_is table ∙ ap (length {A = ℕ}) (sym (first_cut table))) (is ∙ sym (length_cut table))
