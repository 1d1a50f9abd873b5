-- The rows of a table.
use Rattle.std.proofs.Common.{◌≡◌, ℕ, ◌≤◌, ◌<◌, ◌+◌, ◌-◌, ◌%◌, Bool, true, List, [], map, length, take, replicate, get_or, ◌==◌, Option, None, Some, position, unwrap_or, refl, sym, ap, ◌∙◌, arith, length-append, length-take-le}
use Rattle.std.proofs.lemmas.List.{get_or-map, get_or-take, length-map, length-replicate}
use Rattle.std.proofs.lemmas.List.Quantifiers.{position-Some}
use Rattle.std.proofs.lemmas.List.Sums.{AllPass-from_list_all}
use Rattle.layout_tables.specs.Shape.{data_in, first_of, grid_of, is_row, padded, parities_in}
use Rattle.layout_tables.specs.Tables.{row_at, rows_of, slot_with}
use Rattle.layout_tables.specs.declared.table.Table.{Table}
use Rattle.layout_tables.proofs.Readings.{is_table_of}
use Rattle.layout_tables.proofs.ShapeLemmas.{first_parts, row_parts, table_parts}

-- ---- its numbers

pub period_is : (table : Table) → table.period ≡ length (rows_of table)
unfolding rows_of
period_is table = table.drawn.period_is

pub grid_is : (table : Table) → table.grid ≡ grid_of (rows_of table)
unfolding rows_of
grid_is table = table.drawn.grid_is

pub slots_is : (table : Table) → table.slots ≡ length (first_of (rows_of table))
unfolding rows_of
slots_is table = table.drawn.slots_is

pub items_is : (table : Table) → table.items ≡ data_in (first_of (rows_of table))
unfolding rows_of
items_is table = table.drawn.items_is

pub parities_is : (table : Table) → table.parities ≡ parities_in (first_of (rows_of table))
unfolding rows_of
parities_is table = table.drawn.parities_is

pub period_some : (table : Table) → 1 ≤ table.period
period_some table = omega (arith, period_is table, (table_parts (rows_of table) (is_table_of table)).some)

pub period_few : (table : Table) → table.period ≤ 64
period_few table = omega (arith, period_is table, (table_parts (rows_of table) (is_table_of table)).few)

pub slots_some : (table : Table) → 2 ≤ table.slots
slots_some table = omega (arith, slots_is table, (first_parts (first_of (rows_of table)) (table_parts (rows_of table) (is_table_of table)).first).some)

pub slots_few : (table : Table) → table.slots ≤ 24
slots_few table = omega (arith, slots_is table, (first_parts (first_of (rows_of table)) (table_parts (rows_of table) (is_table_of table)).first).few)

-- ---- its rows

pub row_is : (table : Table) (row : ℕ) → is_row (first_of (rows_of table)) (row_at table row) ≡ true
unfolding row_at
row_is table row =
    let some = period_some table in
    let below : row % table.period < length (rows_of table) = omega (arith, period_is table) in
    AllPass-from_list_all (is_row (first_of (rows_of table))) (rows_of table) (table_parts (rows_of table) (is_table_of table)).each (row % table.period) [] below

pub row_slots : (table : Table) (row : ℕ) → length (row_at table row) ≡ table.slots
row_slots table row = (row_parts (first_of (rows_of table)) (row_at table row) (row_is table row)).slots ∙ sym (slots_is table)

-- a row as the grid has it
pub row_in_grid : (table : Table) (row : ℕ) (d : List ℕ) → length table.grid ≡ 64 → take table.slots (get_or table.grid (row % table.period) d) ≡ row_at table row
unfolding row_at rows_of
row_in_grid table row d room =
    let some = period_some table in
    let few = period_few table in
    let at : row % table.period < table.period = omega arith in
    let many : length (take table.period table.grid) ≡ table.period = length-take-le table.period table.grid (omega arith) in
    let below : row % table.period < length (take table.period table.grid) = omega arith in
    let within : row % table.period < length table.grid = omega arith in
    sym (get_or-map (take table.slots) (take table.period table.grid) (row % table.period) d [] below ∙ ap (take table.slots) (get_or-take table.period table.grid (row % table.period) d at))

-- the rows of the grid
pub room : (table : Table) → length table.grid ≡ 64
room table =
    let rows = rows_of table in
    let blank : List ℕ = replicate 24 26 in
    let some = period_few table in
    let same : table.grid ≡ grid_of rows = grid_is table in
    let many : length (grid_of rows) ≡ length (map padded rows) + length (replicate (64 - length rows) blank) = length-append (map padded rows) (replicate (64 - length rows) blank) in
    omega (arith, ap (length {A = List ℕ}) same, many, length-map rows padded, length-replicate (64 - length rows) blank, period_is table)

-- ---- places in rows

some_below : (p : ℕ → Bool) (xs : List ℕ) (n : ℕ) (o : Option ℕ) → 0 < n → length xs ≡ n → o ≡ position p xs → unwrap_or o 0 < n
some_below p xs n None some many is = some
some_below p xs n (Some slot) some many is = omega (arith, (position-Some p xs slot 0 (sym is)).0)

pub item_below : (table : Table) (row item : ℕ) → unwrap_or (slot_with table row item) 0 < table.slots
unfolding slot_with
item_below table row item =
    some_below (λ other. other == item) (row_at table row) table.slots (position (λ other. other == item) (row_at table row)) (omega (arith, slots_some table)) (row_slots table row) refl
