use Rattle.std.proofs.Common.{rules, ◌≡◌, length, arith, sym, ap, ◌∙◌}
use Rattle.std.specs.List.{slice_index_or}
use Rattle.head_walk.proofs.Kept.{asks_table, table_of}
use Rattle.head_walk.proofs.row_tables.table_for.Goals as goal

pub offset_bounds-tables-place : goal.offset_bounds-tables-place
offset_bounds-tables-place c =
    let asks = asks_table c.args.plan.now c.args.sets.now.head c.requires.head.listed (sym c.needs_table.ensures ∙ c.if-not-needs_table.false) in
    let long = c.requires.long asks in
    let within = c.pace_place-place.ensures.within in
    let here = ap length c.deref-tables.ensures.value in
    let fits = c.deref-tables.type_inv in
    omega arith

pub bounds-tables-place : goal.bounds-tables-place
bounds-tables-place c =
    let asks = asks_table c.args.plan.now c.args.sets.now.head c.requires.head.listed (sym c.needs_table.ensures ∙ c.if-not-needs_table.false) in
    let long = c.requires.long asks in
    let within = c.pace_place-place.ensures.within in
    let here = ap length c.deref-tables.ensures.value in
    omega arith

pub returns-clause-table : goal.returns-clause-table
returns-clause-table c = λ bytes are needs.
    let is : c.index-tables-place.result ≡ slice_index_or c.args.entry.now.tables.items c.pace_place-place.result c.index-tables-place.result = search rules in
    table_of bytes c.args.plan.now c.args.sets.now.head c.args.entry.now c.pace_place-place.result c.index-tables-place.result c.requires.offset
    c.pace_place-place.ensures.within c.pace_place-place.ensures.is is
    (are (asks_table c.args.plan.now c.args.sets.now.head c.requires.head.listed needs))
